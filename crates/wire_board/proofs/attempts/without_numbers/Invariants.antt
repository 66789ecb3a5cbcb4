use Rattle.std.proofs.Common.{◌+◌, ◌++◌, ◌≡◌, ◌≤◌, length, map, vec_capacity}
use Rattle.std.specs.Vec.Iter.{into_iter_items, into_iter_len}
use Rattle.wire_board.proofs.attempts.without_numbers.Given as goal

abbrev pub invariant-loop-member : goal.invariant-loop-member
invariant-loop-member g l = record {
  whole : l.machines.items ++ map (λ y. y.machine) (into_iter_items l.member-iterator) ≡ map (λ y. y.machine) (into_iter_items l.initial.member-iterator);
  many : into_iter_len l.member-iterator ≡ length (into_iter_items l.member-iterator);
  room : length l.machines.items + length (into_iter_items l.member-iterator) ≤ vec_capacity l.machines;
}
