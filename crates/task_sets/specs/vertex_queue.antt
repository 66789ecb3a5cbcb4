pub mod Flags
pub mod Lines
pub mod Inner
