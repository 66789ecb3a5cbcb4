pub mod Pauses
pub mod Unsaved
