-- What a call keeps, whatever it is asked to do.
use Rattle.std.specs.Prelude.{ℕ, ◌≤◌}
use Rattle.gl_outside.specs.FilesState.{FilesState}

-- The counts of the faults of files never fall.
pub record KeepsFiles (old new : FilesState) : Type 0 where
  pub reads : old.sources.faults ≤ new.sources.faults
  pub writes : old.sinks.faults ≤ new.sinks.faults

-- The sink is the same one, and the count of its faults never falls.
pub record KeepsSink {K : Type 0} (same : K → K → Type 0) (faults : K → ℕ) (old new : K) : Type 0 where
  pub is : same old new
  pub later : faults old ≤ faults new
