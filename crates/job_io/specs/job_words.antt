pub mod WordForms
pub mod Lines
pub mod Meanings
pub mod CommandLine
pub mod Inner
