mod FlyingLemmas
pub mod Rows
