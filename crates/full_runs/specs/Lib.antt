pub mod FullEnds
pub mod Inner
