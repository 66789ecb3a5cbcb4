use Rattle.std.proofs.Common.{◌+◌, ◌-◌, ◌++◌, ℕ, List, sym, ap, ◌∙◌, arith}
use Rattle.graph_atoms.specs.declared.atom_cut.metas.MetaEdge.{MetaEdge}
use Rattle.graph_atoms.specs.atom_cut.MetaEdges.{metas_behind}
use Rattle.graph_atoms.specs.atom_cut.Inner.Counting.{count_in}
use Rattle.graph_atoms.proofs.atom_cut.CountLemmas.{flat_map-range_more}
use Rattle.graph_atoms.proofs.atom_cut.metas.list_metas.Goals as goal

pub loop-a-preserved : goal.loop-a-preserved
loop-a-preserved c =
    let k = c.args.atoms in
    let behind : ℕ → List MetaEdge = λ a. metas_behind (count_in k c.args.counts.now) a (k - (a + 1)) in
    let a = c.loop-a.a in
    c.in_ok-list_behind.ensures ∙ ap (λ (ms : List MetaEdge). ms ++ behind a) c.loop-a.invariant
    ∙ sym (flat_map-range_more behind 0 a a (omega arith))
