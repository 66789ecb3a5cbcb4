pub mod Locks
pub mod Tables
pub mod Inner
