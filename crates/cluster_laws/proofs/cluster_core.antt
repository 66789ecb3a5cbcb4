pub mod Basics
pub mod Nearness
pub mod Taking
