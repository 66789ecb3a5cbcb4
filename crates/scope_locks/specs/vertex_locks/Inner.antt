-- What the types and the clauses of private functions cite. Who reads the public clauses need not read it.
pub mod KeptLists
pub mod KeptLocks
pub mod KeptTables
