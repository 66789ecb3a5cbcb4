pub mod Plays
pub mod Plans
