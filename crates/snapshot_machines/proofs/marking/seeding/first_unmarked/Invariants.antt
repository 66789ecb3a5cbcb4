use Rattle.snapshot_machines.specs.marking.Seeding.{AreMarkedBelow}
use Rattle.snapshot_machines.proofs.marking.seeding.first_unmarked.Given as goal

abbrev pub invariant-loop-place : goal.invariant-loop-place
invariant-loop-place l = AreMarkedBelow l.numbers l.known l.place
