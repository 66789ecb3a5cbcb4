use Rattle.std.proofs.Common.{◌≡◌, ◌+◌, ◌-◌}
use Rattle.std.specs.List.{flat_map, range_with_len}
use Rattle.graph_atoms.specs.atom_cut.MetaEdges.{metas_behind}
use Rattle.graph_atoms.specs.atom_cut.Inner.Counting.{count_in}
use Rattle.graph_atoms.proofs.atom_cut.metas.list_metas.Given as goal

abbrev pub invariant-loop-a : goal.invariant-loop-a
invariant-loop-a l = l.metas.items ≡ flat_map (λ a. metas_behind (count_in l.atoms l.counts) a (l.atoms - (a + 1))) (range_with_len 0 l.a)
