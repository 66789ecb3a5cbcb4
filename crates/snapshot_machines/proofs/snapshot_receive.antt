pub mod FrontLemmas
pub mod NewsLemmas
