use Rattle.std.proofs.Common.{arith}
use Rattle.std.proofs.lemmas.Nat.{mul-add-lt}
use Rattle.graph_atoms.proofs.atom_cut.metas.place_of.Goals as goal

pub returns-clause-inside : goal.returns-clause-inside
returns-clause-inside c =
    mul-add-lt c.min-low.result c.args.atoms c.max-high.result c.args.atoms (omega (arith, c.min-low.ensures)) (omega (arith, c.max-high.ensures))
