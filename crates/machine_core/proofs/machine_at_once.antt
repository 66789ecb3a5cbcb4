pub mod Scopes
pub mod Numbers
pub mod Machines
