use Rattle.std.proofs.Common.{◌≡◌, ℕ, ◌<◌, false, slice_index_or}
use Rattle.gl_base.specs.scope_lists.Scopes.{is_scope}
use Rattle.scope_locks.specs.declared.scope_pipe.flights.Flight.{Flight}
use Rattle.scope_locks.proofs.scope_pipe.pipes.flight_place.Given as goal

abbrev pub invariant-loop-place : goal.invariant-loop-place
invariant-loop-place l = (k : ℕ) (d : Flight) → k < l.place → is_scope (slice_index_or l.flights k d).scope l.scope ≡ false
