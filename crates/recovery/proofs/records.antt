mod Sorting
mod Saying
pub mod Going
