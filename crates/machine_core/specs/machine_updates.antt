pub mod Works
pub mod Reserving
pub mod Telling
pub mod Committing
pub mod Learning
