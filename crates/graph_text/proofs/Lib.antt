pub mod FirstFaults
pub mod FirstPlaces
pub mod Limits
pub mod VertexTexts
pub mod EdgeTexts
