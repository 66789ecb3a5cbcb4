pub mod Places
pub mod Colours
pub mod Cores
pub mod Inner
