pub mod Picking
pub mod Counted
pub mod Making
pub mod Joining
