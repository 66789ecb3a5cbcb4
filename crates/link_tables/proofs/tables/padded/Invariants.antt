use Rattle.std.proofs.Common.{◌≡◌, ◌+◌, ◌++◌, ◌≤◌, length, vec_capacity}
use Rattle.std.specs.Vec.Iter.{into_iter_items, into_iter_len}
use Rattle.link_tables.proofs.tables.padded.Given as goal

abbrev pub invariant-loop-link : goal.invariant-loop-link
invariant-loop-link g l = record {
  whole : l.slots.items ++ into_iter_items l.link-iterator ≡ into_iter_items l.initial.link-iterator;
  many : into_iter_len l.link-iterator ≡ length (into_iter_items l.link-iterator);
  room : length l.slots.items + length (into_iter_items l.link-iterator) ≤ vec_capacity l.slots;
}
