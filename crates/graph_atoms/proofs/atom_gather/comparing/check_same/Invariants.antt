use Rattle.std.proofs.Common.{◌≡◌, drop}
use Rattle.graph_atoms.specs.atom_gather.Files.{difference_from}
use Rattle.graph_atoms.proofs.atom_gather.comparing.check_same.Given as goal

abbrev pub invariant-loop-at : goal.invariant-loop-at
invariant-loop-at l = difference_from l.at (drop l.at l.bytes) (drop l.at l.wanted) ≡ difference_from 0 l.bytes l.wanted
