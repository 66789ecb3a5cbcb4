pub mod Making
pub mod Writes
