use Rattle.std.proofs.Common.{◌≡◌, drop, length}
use Rattle.snapshot_machines.specs.marking.Inner.Marks.{sides_at}
use Rattle.snapshot_machines.proofs.marking.SaveLemmas.{IsPendingEnds}
use Rattle.snapshot_machines.proofs.marking.marks.pend_ends.Given as goal

abbrev pub invariant-loop-place : goal.invariant-loop-place
invariant-loop-place l = record {
  pending : IsPendingEnds l.fn.numbers l.numbers l.known (sides_at l.fn.numbers.local l.v.0) (drop l.place (sides_at l.fn.numbers.local l.v.0));
  many : l.degree ≡ length (sides_at l.fn.numbers.local l.v.0);
}
