use Rattle.std.proofs.Common.{◌≡◌, ◌≤◌, ℕ, length}
use Rattle.std.specs.Vec.{vec_capacity}
use Rattle.scope_locks.specs.vertex_locks.Inner.KeptLists.{all_locks}
use Rattle.scope_locks.proofs.vertex_locks.lists.add_free.Given as goal

abbrev pub invariant-loop-place : goal.invariant-loop-place
invariant-loop-place l = record {
  all : (all : ℕ) → l.many ≤ all → all_locks l.kept.items all ≡ all_locks l.initial.kept.items all;
  len : length l.kept.items ≡ l._place;
  room : l.many ≤ vec_capacity l.kept;
}
