pub mod Failing
pub mod Returning
