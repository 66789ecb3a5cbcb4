pub mod FieldsViews
pub mod Groups
