pub mod Fields
pub mod Atoms
pub mod Faults
pub mod Views
pub mod Inner
