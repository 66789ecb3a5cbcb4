pub mod SupportedLaws
pub mod LeastFreeLaws
pub mod ScopesLaws
pub mod LeastLaws
pub mod MarksLaws
pub mod LentEdges
