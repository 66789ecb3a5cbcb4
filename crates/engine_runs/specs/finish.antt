pub mod Gathered
pub mod Ends
pub mod Inner
