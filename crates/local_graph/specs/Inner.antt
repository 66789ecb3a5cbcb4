-- What the type and the clauses of private functions cite.
pub mod Blank
pub mod Kept
pub mod Ways
pub mod Views
pub mod Ends
pub mod AtPlaces
pub mod Beside
pub mod ByPlace
