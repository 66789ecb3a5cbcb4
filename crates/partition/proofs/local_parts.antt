pub mod RangeLemmas
pub mod HalfLemmas
pub mod FoundLemmas
pub mod NearLemmas
pub mod SharedLemmas
pub mod MineLemmas
pub mod LocalLemmas
pub mod ScopeLemmas
