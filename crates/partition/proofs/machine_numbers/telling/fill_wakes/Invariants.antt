use Rattle.std.proofs.Common.{drop, length}
use Rattle.partition.specs.machine_numbers.Steps.{told_wakes}
use Rattle.partition.proofs.machine_numbers.TellLemmas.{IsFilling}
use Rattle.partition.proofs.machine_numbers.telling.fill_wakes.Given as goal

abbrev pub invariant-loop-place : goal.invariant-loop-place
invariant-loop-place l = IsFilling (told_wakes l.to.0 l.woken l.sides l.links) (told_wakes l.to.0 l.woken (drop l.place l.sides) (drop l.place l.links)) l.wakes l.place (length l.sides)
