pub mod Reports
pub mod Machines
pub mod Asking
pub mod Eager
