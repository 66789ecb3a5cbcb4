pub mod Folds
pub mod Appends
pub mod Inner
