pub mod Lacking
pub mod Inner
