pub mod Watched
pub mod Ends
pub mod Snapshotting
pub mod FourWaves
