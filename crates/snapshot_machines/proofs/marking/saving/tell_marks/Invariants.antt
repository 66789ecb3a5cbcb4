use Rattle.std.proofs.Common.{◌≡◌, length}
use Rattle.std.specs.Vec.Iter.{into_iter_items, into_iter_len}
use Rattle.snapshot_machines.specs.marking.Inner.Marks.{mark_told, sides_at}
use Rattle.snapshot_machines.proofs.marking.SaveLemmas.{IsTellingMarks}
use Rattle.snapshot_machines.proofs.marking.saving.tell_marks.Given as goal

abbrev pub invariant-loop-one : goal.invariant-loop-one
invariant-loop-one l =
    record {
      telling : IsTellingMarks l.initial.out l.out (mark_told l.numbers l.known l.flight.scope l.flight.centre) l.flight.scope l.flight.centre (length (sides_at l.numbers.local l.flight.centre.0)) (into_iter_items l.initial.one-iterator) (into_iter_items l.one-iterator);
      many : into_iter_len l.one-iterator ≡ length (into_iter_items l.one-iterator);
    }
