-- What clauses of private functions cite.
pub mod Numbers
pub mod Storing
