pub mod Starting
pub mod Inner
