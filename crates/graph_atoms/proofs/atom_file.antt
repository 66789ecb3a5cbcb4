pub mod RunLemmas
pub mod FieldLemmas
pub mod CountLemmas
pub mod RecordLemmas
pub mod FormLemmas
pub mod WrittenLemmas
pub mod ReadLemmas
pub mod AtomLemmas
