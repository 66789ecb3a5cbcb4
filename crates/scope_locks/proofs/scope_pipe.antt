pub mod FlightLemmas
pub mod EnteredLemmas
