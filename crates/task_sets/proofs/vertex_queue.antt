pub mod Queueing
pub mod Standings
pub mod LineLemmas
pub mod TurnLemmas
mod WrittenBack
