use Rattle.std.proofs.Common.{◌≡◌, ◌+◌, ◌-◌, ◌*◌}
use Rattle.store.specs.store_format.Entries.{entries_fault}
use Rattle.store.proofs.store_format.entries_check.check_entries.Given as goal

abbrev pub invariant-loop-i : goal.invariant-loop-i
invariant-loop-i l =
    entries_fault l.header l.number 0 l.count l.body 8 ≡ entries_fault l.header l.number l.least (l.count - l.i) l.body (8 + 16 * l.i)
