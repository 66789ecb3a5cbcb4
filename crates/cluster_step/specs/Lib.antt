pub mod trace
pub mod drive
pub mod clusters
