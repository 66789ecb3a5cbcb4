use Rattle.partition.proofs.machine_numbers.KeepLemmas.{AreNear}
use Rattle.partition.proofs.machine_numbers.keeping.fill_near.Given as goal

abbrev pub invariant-loop-side : goal.invariant-loop-side
invariant-loop-side l = AreNear l.near l.numbers l.sides l.side-index
