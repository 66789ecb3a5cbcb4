pub mod Saving
pub mod SavedOnce
