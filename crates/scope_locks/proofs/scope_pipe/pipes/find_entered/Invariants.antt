use Rattle.std.proofs.Common.{◌≡◌, ℕ, ◌<◌, false, slice_index_or}
use Rattle.gl_base.specs.scope_lists.Scopes.{is_scope}
use Rattle.scope_locks.specs.scope_pipe.Entered.{EnteredView}
use Rattle.scope_locks.proofs.scope_pipe.pipes.find_entered.Given as goal

abbrev pub invariant-loop-place : goal.invariant-loop-place
invariant-loop-place l = (k : ℕ) (d : EnteredView) → k < l.place → is_scope (slice_index_or l.entered k d).scope l.scope ≡ false
