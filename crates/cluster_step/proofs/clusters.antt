pub mod LinkLemmas
mod Flatten
mod ListLemmas
pub mod Goings
pub mod Lines
pub mod Making
pub mod Answering
pub mod AtOnceRuns
pub mod Leading
pub mod Cutting
pub mod Next
pub mod Ordering
pub mod Stopping
pub mod Acknowledging
pub mod Words
