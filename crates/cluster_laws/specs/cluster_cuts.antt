pub mod Goings
pub mod TwoMachines
