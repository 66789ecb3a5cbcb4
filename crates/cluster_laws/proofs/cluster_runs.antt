pub mod Apart
pub mod Coherence
pub mod Attempting
