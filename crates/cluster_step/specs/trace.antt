pub mod Traces
pub mod Later
pub mod Events
pub mod AtOnce
pub mod Calls
