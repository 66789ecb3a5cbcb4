pub mod Cuts
pub mod Atoms
pub mod MetaEdges
pub mod Index
pub mod Inner
