pub mod Eager
pub mod Machines
pub mod Prompting
