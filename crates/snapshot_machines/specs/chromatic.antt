pub mod Machines
pub mod Admitting
pub mod Steps
pub mod Updating
pub mod AtOnce
pub mod Eager
pub mod Snapshots
pub mod Inner
