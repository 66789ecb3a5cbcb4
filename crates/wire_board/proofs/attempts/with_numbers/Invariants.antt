use Rattle.std.proofs.Common.{◌+◌, ◌++◌, ◌≡◌, ◌≤◌, length, vec_capacity}
use Rattle.std.specs.Vec.Iter.{into_iter_items, into_iter_len}
use Rattle.wire_board.specs.Attempts.{numbered_members}
use Rattle.wire_board.proofs.attempts.with_numbers.Given as goal

abbrev pub invariant-loop-machine : goal.invariant-loop-machine
invariant-loop-machine g l = record {
  whole : l.members.items ++ numbered_members l.peers (length l.members.items) (into_iter_items l.machine-iterator) ≡ numbered_members l.peers 0 (into_iter_items l.initial.machine-iterator);
  many : into_iter_len l.machine-iterator ≡ length (into_iter_items l.machine-iterator);
  room : length l.members.items + length (into_iter_items l.machine-iterator) ≤ vec_capacity l.members;
}
