pub mod Machines
pub mod Updates
