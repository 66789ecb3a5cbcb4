pub mod Following
pub mod Opened
pub mod Called
pub mod Saved
pub mod Telling
pub mod Lost
pub mod PairAgain
pub mod EndSaved
