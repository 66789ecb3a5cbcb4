use Rattle.std.proofs.Common.{◌≡◌, length}
use Rattle.std.specs.Vec.Iter.{into_iter_items, into_iter_len}
use Rattle.machine_core.proofs.machine_updates.TellLemmas.{IsTelling}
use Rattle.machine_core.proofs.machine_updates.telling.tell_all.Given as goal

abbrev pub invariant-loop-one : goal.invariant-loop-one
invariant-loop-one l =
    record {
      telling : IsTelling l.initial.out l.out l.numbers l.outcome (into_iter_items l.initial.one-iterator) (into_iter_items l.one-iterator);
      many : into_iter_len l.one-iterator ≡ length (into_iter_items l.one-iterator);
    }
