-- Where the rounds of an attempt pause in a call that stores no snapshot.
use Rattle.cluster_step.specs.declared.drive.pauses.Pause.{Pause}
use Rattle.cluster_step.specs.declared.drive.pauses.Pause.TheVariants as pause
use Rattle.cluster_step.specs.declared.drive.unsaved.UnsavedPause.{UnsavedPause}
use Rattle.cluster_step.specs.declared.drive.unsaved.UnsavedPause.TheVariants.{Quiet, Reached, Spent}
use Rattle.cluster_step.specs.drive.Pauses.{TraceView, Machine, PauseMeaning, Setting}
use Rattle.std.specs.Prelude.{ℕ}

-- the same pause of a call with a store
abbrev pub as_pause : UnsavedPause → Pause
as_pause (Reached m) = pause.Reached m
as_pause Quiet = pause.Quiet
as_pause Spent = pause.Spent

-- a machine has reached the count of a failure, or nothing is left, or the budget is spent, as where such a call pauses so
abbrev pub PausesUnsaved : {M : Type 0} → (Setting → ℕ → Machine → M → Type 0) → TraceView M → UnsavedPause → Type 0
PausesUnsaved represents v why = PauseMeaning represents v (as_pause why)
