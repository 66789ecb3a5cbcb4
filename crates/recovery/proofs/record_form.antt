mod Times
mod Rows
mod InTurn
mod AllSaved
mod Formed
pub mod Tickets
pub mod Due
