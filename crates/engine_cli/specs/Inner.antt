-- What clauses of private functions cite.

pub mod Writes
pub mod Storing
pub mod Prepares
pub mod Printing
