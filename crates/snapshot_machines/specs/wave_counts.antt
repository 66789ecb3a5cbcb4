pub mod Counts
pub mod Idle
