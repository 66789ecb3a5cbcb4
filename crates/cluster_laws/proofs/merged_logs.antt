pub mod FrontLemmas
pub mod SameLemmas
pub mod MergeLemmas
pub mod PartLemmas
