pub mod LockLemmas
pub mod TableLemmas
pub mod MakingLemmas
pub mod ListedLemmas
pub mod CountLemmas
