pub mod Picks
pub mod Inner
