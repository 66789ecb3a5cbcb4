pub mod CountLemmas
pub mod ScopeLemmas
pub mod TaskLemmas
pub mod IdleLemmas
