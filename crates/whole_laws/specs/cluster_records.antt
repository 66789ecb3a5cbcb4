pub mod Listed
pub mod Recorded
pub mod Bases
pub mod Wanting
pub mod Few
pub mod LineOfFour
pub mod LonePair
