pub mod EngineLemmas
pub mod BeginLemmas
