pub mod Eager
pub mod Machines
