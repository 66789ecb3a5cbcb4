mod StayLemmas
mod FoundLemmas
