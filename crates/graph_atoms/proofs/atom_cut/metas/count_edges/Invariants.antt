use Rattle.graph_atoms.specs.atom_cut.Cuts.{atom_numbers}
use Rattle.graph_atoms.specs.atom_cut.Inner.Counting.{AreEdgeCounts}
use Rattle.graph_atoms.proofs.atom_cut.metas.count_edges.Given as goal

abbrev pub invariant-loop-e : goal.invariant-loop-e
invariant-loop-e l = AreEdgeCounts l.graph (atom_numbers l.of) l.atoms l.e l.counts
