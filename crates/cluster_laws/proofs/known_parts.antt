pub mod ApartLemmas
pub mod SeenLemmas
pub mod MadeLemmas
pub mod GuardLemmas
