pub mod FirstLemmas
pub mod FirstMachineLemmas
pub mod MemberLemmas
pub mod ManyLemmas
pub mod RunLemmas
pub mod LawLemmas
