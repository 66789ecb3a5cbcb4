pub mod Granting
pub mod Asking
pub mod Admitting
pub mod Inner
