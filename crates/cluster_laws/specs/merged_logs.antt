pub mod Merges
pub mod Inner
