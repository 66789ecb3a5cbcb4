use Rattle.std.proofs.Common.{drop, length}
use Rattle.partition.proofs.machine_numbers.TellLemmas.{IsFilling}
use Rattle.snapshot_machines.specs.marking.Inner.Marks.{ends_left}
use Rattle.snapshot_machines.proofs.marking.saving.list_ends.Given as goal

abbrev pub invariant-loop-place : goal.invariant-loop-place
invariant-loop-place l = IsFilling (ends_left l.numbers l.known l.to.0 l.sides) (ends_left l.numbers l.known l.to.0 (drop l.place l.sides)) l.list l.place (length l.sides)
