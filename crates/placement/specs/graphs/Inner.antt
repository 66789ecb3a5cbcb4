-- What clauses of private functions cite.
pub mod Making
pub mod Weighing
