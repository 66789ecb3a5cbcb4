pub mod UnmatchedLemmas
pub mod WrittenLemmas
pub mod Mates
pub mod Matching
pub mod FewUpdates
