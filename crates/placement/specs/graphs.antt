pub mod Placed
pub mod Beginnings
pub mod Weights
pub mod Inner
