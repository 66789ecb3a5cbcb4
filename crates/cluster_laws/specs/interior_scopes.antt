pub mod AtOnce
pub mod InTurn
pub mod Moves
