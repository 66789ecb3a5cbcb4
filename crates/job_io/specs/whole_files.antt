pub mod FilesUsed
pub mod FilesRead
pub mod Leaves
pub mod AtomNames
pub mod InTurn
