pub mod Walking
pub mod Running
pub mod InTurn
pub mod Moving
