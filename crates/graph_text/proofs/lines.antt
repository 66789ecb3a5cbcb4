pub mod PlainTexts
pub mod FieldRows
pub mod RowLaws
pub mod RowTexts
pub mod TextRuns
pub mod Runs
pub mod CutPieces
pub mod LinePieces
