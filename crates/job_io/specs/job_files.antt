pub mod DoableJobs
pub mod JobTexts
pub mod Atoms
pub mod NamesRead
pub mod Inputs
pub mod Inner
