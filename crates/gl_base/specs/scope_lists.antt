pub mod Scopes
pub mod Found
