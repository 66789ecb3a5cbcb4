-- What the clauses of private functions and the proofs cite. Who reads the public clauses need not read it.
pub mod Queues
