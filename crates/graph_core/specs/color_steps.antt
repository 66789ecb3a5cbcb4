pub mod Greedy
pub mod Inner
