pub mod Links
pub mod Inner
pub mod Lines
pub mod Clusters
pub mod Events
pub mod AtOnce
pub mod Cuts
pub mod Ordered
