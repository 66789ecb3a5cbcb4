-- What clauses of private functions cite.
pub mod Causes
pub mod Jobs
pub mod Graphs
pub mod AtomsRead
