pub mod Entries
pub mod Beginnings
pub mod EngineCalls
pub mod Accounted
pub mod Stores
pub mod OneFailure
