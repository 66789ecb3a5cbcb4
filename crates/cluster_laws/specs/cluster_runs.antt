pub mod Attempts
pub mod Recorded
