pub mod GraphLemmas
pub mod NewLemmas
pub mod ReadLemmas
pub mod SendLemmas
