use Rattle.std.proofs.Common.{◌≡◌, ◌++◌, drop}
use Rattle.std.specs.Prelude.{slice_index_or}
use Rattle.engine_runs.specs.finish.Gathered.{reached_places}
use Rattle.engine_runs.proofs.finish.fired.fired_places.Given as goal

abbrev pub invariant-loop-place : goal.invariant-loop-place
invariant-loop-place l = l.fired.items ++ reached_places (λ m. slice_index_or l.done m 0) l.place (drop l.place l.failures) ≡ reached_places (λ m. slice_index_or l.done m 0) 0 l.failures
