pub mod Keeping
pub mod Seeding
pub mod Hearing
pub mod Apart
pub mod Marking
pub mod Sending
pub mod Learning
pub mod Inner
