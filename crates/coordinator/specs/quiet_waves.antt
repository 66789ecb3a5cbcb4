pub mod Waves
pub mod Inner
