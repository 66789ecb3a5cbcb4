pub mod Lines
pub mod HexText
