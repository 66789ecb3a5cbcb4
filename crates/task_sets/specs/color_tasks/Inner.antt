-- What the clauses of private functions and the invariants cite. Who reads the public clauses need not read it.
pub mod Seats
