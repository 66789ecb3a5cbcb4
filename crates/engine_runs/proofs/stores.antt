pub mod Staying
pub mod Keeping
