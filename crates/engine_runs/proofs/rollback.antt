pub mod Failings
pub mod Losses
pub mod Restarted
pub mod Keepings
pub mod Attempts
pub mod Refusals
pub mod FromStart
