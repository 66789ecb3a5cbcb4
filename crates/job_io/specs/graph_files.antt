pub mod Made
pub mod Cuts
pub mod Inner
