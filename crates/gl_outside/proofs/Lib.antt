pub mod StoredFiles
pub mod Sinks
pub mod MemOpens
pub mod HostFrames
pub mod Opening
pub mod Fronts
pub mod Disks
pub mod DiskPlaces
