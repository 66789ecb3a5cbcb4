pub mod IdleLemmas
pub mod CountLemmas
