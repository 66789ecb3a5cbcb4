pub mod Views
pub mod Whole
pub mod Windows
pub mod Steps
pub mod Logged
