pub mod TextsMade
pub mod CutWritten
