-- What the clauses of private functions cite. Who reads the public clauses need not read it.
pub mod RowSteps
pub mod SortedKeys
pub mod HalfPairs
pub mod NumberedEdges
pub mod GraphParts
pub mod GrowthMarks
