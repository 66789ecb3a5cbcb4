pub mod Locals
pub mod Lines
pub mod Played
pub mod Works
pub mod Inner
