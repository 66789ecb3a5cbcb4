pub mod Saving
pub mod Steps
pub mod Stores
pub mod Records
pub mod Coordinators
pub mod Calls
pub mod Inner
