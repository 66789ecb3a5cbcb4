pub mod chromatic
pub mod saving
pub mod marking
pub mod snapshot_receive
pub mod locking
pub mod wave_counts
