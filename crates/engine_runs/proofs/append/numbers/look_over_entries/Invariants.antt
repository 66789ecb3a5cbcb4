use Rattle.std.proofs.Common.{take}
use Rattle.std.specs.List.{AllByRecursion}
use Rattle.engine_runs.specs.append.Inner.Numbers.{EntryFits}
use Rattle.engine_runs.proofs.append.numbers.look_over_entries.Given as goal

abbrev pub invariant-loop-entry : goal.invariant-loop-entry
invariant-loop-entry l = AllByRecursion EntryFits (take l.entry-index l.entries)
