pub mod Lines
pub mod Ends
pub mod Runs
pub mod Images
pub mod Unstored
