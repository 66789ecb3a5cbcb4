pub mod EdgeSaved
