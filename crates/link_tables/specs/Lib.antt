pub mod Rule
pub mod Seats
pub mod Halts
pub mod Steps
pub mod Sights
