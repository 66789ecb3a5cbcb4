pub mod TraceLemmas
pub mod StartLemmas
pub mod TicketLemmas
pub mod TicketSteps
pub mod StartingAlone
