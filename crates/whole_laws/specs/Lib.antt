pub mod cluster_whole
pub mod cluster_records
pub mod cluster_ending
