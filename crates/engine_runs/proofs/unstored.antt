pub mod Goings
pub mod Again
pub mod Owned
