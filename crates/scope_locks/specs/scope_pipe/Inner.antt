-- What the type and the clauses of private functions cite. Who reads the public clauses need not read it.
pub mod Kept
