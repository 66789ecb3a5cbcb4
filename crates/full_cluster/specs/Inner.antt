-- What clauses of private functions cite.
pub mod Rows
pub mod Giving
pub mod Making
pub mod Gifts
pub mod Ways
