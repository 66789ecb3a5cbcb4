use Rattle.std.proofs.Common.{◌≡◌, ◌+◌, ◌-◌, ◌*◌, ◌++◌}
use Rattle.store.specs.store_format.StoredOrders.{entries_from}
use Rattle.store.proofs.store_format.entries_read.push_entries_of.Given as goal

abbrev pub invariant-loop-i : goal.invariant-loop-i
invariant-loop-i l =
    l.entries.items ++ entries_from (l.count - l.i) l.body (8 + 16 * l.i) ≡ l.initial.entries.items ++ entries_from l.count l.body 8
