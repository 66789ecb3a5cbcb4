pub mod Values
pub mod Fields
pub mod Failures
pub mod Keys
pub mod Jobs
pub mod Views
pub mod Ranges
pub mod Inner
