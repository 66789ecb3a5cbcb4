pub mod FallingLemmas
pub mod LoadLemmas
