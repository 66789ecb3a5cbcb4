pub mod SameScope
pub mod FoundLemmas
pub mod Edited
