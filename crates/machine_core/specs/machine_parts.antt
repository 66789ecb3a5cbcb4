pub mod Parts
pub mod Settings
pub mod Order
pub mod Rooms
