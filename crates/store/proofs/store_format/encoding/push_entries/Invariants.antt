use Rattle.std.proofs.Common.{◌≡◌, ◌++◌, take}
use Rattle.std.specs.List.{flat_map}
use Rattle.store.specs.store_format.Encoding.{entry_bytes}
use Rattle.store.proofs.store_format.encoding.push_entries.Given as goal

abbrev pub invariant-loop-entry : goal.invariant-loop-entry
invariant-loop-entry l = l.bytes.items ≡ l.initial.bytes.items ++ flat_map entry_bytes (take l.entry-index l.entries)
