pub mod Rest
pub mod Inner
