-- What clauses of private functions cite.
pub mod Cores
pub mod Orders
