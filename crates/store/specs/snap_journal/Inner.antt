-- What clauses of private functions and the invariant of a journal cite.
pub mod Settled
pub mod Reads
pub mod Found
