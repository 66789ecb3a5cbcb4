pub mod AssignLemmas
pub mod FillLemmas
pub mod CountLemmas
pub mod IndexLemmas
pub mod RangeLemmas
