-- What is said of disks.
pub use Rattle.gl_outside.specs.Faults.{Rose, Counts}
pub use Rattle.gl_outside.specs.Disk.{DiskPast, DiskState, LeavesOnly, IsImage, images_now}
