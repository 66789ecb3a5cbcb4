pub mod OntoLemmas
pub mod PlaceLemmas
pub mod OwnerLemmas
pub mod ColourLemmas
pub mod NewLemmas
