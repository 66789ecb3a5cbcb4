-- What the proofs of these tests speak of.
pub mod Flying
pub mod Rows
