pub mod ScopesLaws
pub mod LentNumbers
pub mod WithEach
pub mod FullGoingOn
pub mod FullAtRest
pub mod OneHalf
pub mod RowLemmas
pub mod GraphProps
