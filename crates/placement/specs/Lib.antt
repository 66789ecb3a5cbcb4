pub mod plans
pub mod places
pub mod graphs
