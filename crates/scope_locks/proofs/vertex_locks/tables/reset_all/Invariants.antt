use Rattle.std.proofs.Common.{ℕ, ◌<◌, ◌≤◌, slice_index_or}
use Rattle.scope_locks.specs.vertex_locks.Inner.KeptTables.{IsFree}
use Rattle.scope_locks.specs.vertex_locks.Tables.{no_lock}
use Rattle.scope_locks.proofs.vertex_locks.tables.reset_all.Given as goal

abbrev pub invariant-loop-lock : goal.invariant-loop-lock
invariant-loop-lock l = record {
  free : (k : ℕ) → k < l.lock-index → IsFree (slice_index_or l.locks k no_lock);
  more : (k : ℕ) → (slice_index_or l.initial.locks k no_lock).room ≤ (slice_index_or l.locks k no_lock).room;
}
