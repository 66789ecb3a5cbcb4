pub mod EndLemmas
pub mod GatherLemmas
pub mod RoomLemmas
pub mod MachineLemmas
