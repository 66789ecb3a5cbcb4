use Rattle.std.proofs.Common.{drop, length}
use Rattle.partition.specs.machine_numbers.Steps.{told_edges}
use Rattle.partition.proofs.machine_numbers.TellLemmas.{IsFilling}
use Rattle.partition.proofs.machine_numbers.telling.fill_edges.Given as goal

abbrev pub invariant-loop-place : goal.invariant-loop-place
invariant-loop-place l = IsFilling (told_edges l.to.0 l.sides l.old l.new) (told_edges l.to.0 (drop l.place l.sides) (drop l.place l.old) (drop l.place l.new)) l.edges l.place (length l.sides)
