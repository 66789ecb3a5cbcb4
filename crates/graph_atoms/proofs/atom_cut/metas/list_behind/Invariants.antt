use Rattle.std.proofs.Common.{◌≡◌, ◌+◌, ◌-◌, ◌++◌}
use Rattle.graph_atoms.specs.atom_cut.MetaEdges.{metas_behind}
use Rattle.graph_atoms.specs.atom_cut.Inner.Counting.{count_in}
use Rattle.graph_atoms.proofs.atom_cut.metas.list_behind.Given as goal

abbrev pub invariant-loop-b : goal.invariant-loop-b
invariant-loop-b l = l.metas.items ≡ l.initial.metas.items ++ metas_behind (count_in l.atoms l.counts) l.a (l.b - (l.a + 1))
