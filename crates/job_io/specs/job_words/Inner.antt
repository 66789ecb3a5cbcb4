pub mod Glab
pub mod Views
pub mod Spelling
