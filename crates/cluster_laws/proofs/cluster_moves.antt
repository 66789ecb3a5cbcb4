pub mod SomethingMoves
pub mod DueKept
pub mod CountedKept
pub mod NeverStuck
