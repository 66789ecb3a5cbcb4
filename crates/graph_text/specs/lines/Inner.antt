-- What the clauses of private functions cite. Who reads the public clauses need not read it.
pub mod Steps
pub mod Places
pub mod PlainLines
pub mod Texts
