pub mod Entered
pub mod Pipes
pub mod Inner
