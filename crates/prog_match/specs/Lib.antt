pub mod Pairs
pub mod MaximalMatchings
pub mod MatchingExamples
