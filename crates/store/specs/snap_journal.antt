pub mod Disks
pub mod Formats
pub mod Journals
pub mod Answers
pub mod Last
pub mod Inner
