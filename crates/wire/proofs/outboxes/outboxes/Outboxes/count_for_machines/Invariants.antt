use Rattle.std.proofs.Common.{◌≡◌, ◌≤◌, ◌*◌, length, sum_by, take}
use Rattle.wire.proofs.outboxes.outboxes.Outboxes.count_for_machines.Given as goal

abbrev pub invariant-loop-one : goal.invariant-loop-one
invariant-loop-one l =
    record {
      sum : l.count ≡ sum_by (λ box. length box.messages) (take l.one-index l.one-items);
      bound : l.count ≤ l.one-index * 18446744073709551615;
    }
