use Rattle.std.proofs.Common.{arith}
use Rattle.graph_core.specs.DataGraph.{size}
use Rattle.graph_atoms.proofs.atom_cut.FillLemmas.{AllHold-alone}
use Rattle.graph_atoms.proofs.atom_cut.lines.add_ghosts.Goals as goal

pub returns-then-lines-le1 : goal.returns-then-lines-le1
returns-then-lines-le1 c = AllHold-alone c.args.graph.now c.args.of.now (size c.args.graph.now) c.args.lines.now c.requires.below (omega arith) c.requires.vertices
