pub mod SoFar
pub mod Driving
