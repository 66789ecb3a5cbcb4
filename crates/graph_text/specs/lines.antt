pub mod Lines
pub mod Rows
pub mod Says
pub mod Found
pub mod Inner
