pub mod Told
pub mod AtOnce
pub mod Deeds
pub mod Eager
pub mod Going
pub mod InTurn
pub mod Promises
