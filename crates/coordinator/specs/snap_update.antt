pub mod Snaps
pub mod Holding
