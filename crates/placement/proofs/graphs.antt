pub mod PartLemmas
pub mod BeginLemmas
pub mod FirstLemmas
pub mod AllLemmas
pub mod WeighLemmas
pub mod PlaceLemmas
