pub mod EntryLemmas
pub mod KeyLemmas
pub mod NewLemmas
pub mod ReadLemmas
pub mod StoreLemmas
pub mod OrderLemmas
pub mod NumberLemmas
pub mod ReadBackLemmas
