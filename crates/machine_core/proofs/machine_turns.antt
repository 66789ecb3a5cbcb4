pub mod MadeLemmas
pub mod TurnLemmas
pub mod NextLemmas
