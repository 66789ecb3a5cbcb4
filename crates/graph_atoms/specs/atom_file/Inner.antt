-- What clauses of private functions cite.
pub mod Runs
pub mod Counts
