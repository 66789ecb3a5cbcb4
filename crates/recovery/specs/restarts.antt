pub mod Missing
pub mod Inner
