pub mod Asking
pub mod Kept
pub mod Words
pub mod Seen
