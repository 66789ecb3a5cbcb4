pub mod Failures
pub mod CallsSoFar
