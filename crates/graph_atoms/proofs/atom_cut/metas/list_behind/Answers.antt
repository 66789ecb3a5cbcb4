use Rattle.std.proofs.Common.{◌≡◌, ◌+◌, ◌-◌, ◌++◌, List, sym, ap, ◌∙◌, append_assoc, arith}
use Rattle.graph_atoms.specs.declared.atom_cut.metas.MetaEdge.{MetaEdge}
use Rattle.graph_atoms.specs.atom_cut.MetaEdges.{meta_edge, metas_behind}
use Rattle.graph_atoms.specs.atom_cut.Inner.Counting.{count_in}
use Rattle.graph_atoms.proofs.atom_cut.CountLemmas.{flat_map-range_more}
use Rattle.graph_atoms.proofs.atom_cut.metas.list_behind.Goals as goal

pub loop-b-preserved : goal.loop-b-preserved
loop-b-preserved c =
    let count = count_in c.args.atoms c.args.counts.now in
    let a = c.args.a in
    let b = c.loop-b.b in
    let n = b - (a + 1) in
    let old = c.args.metas.now.items in
    let same : b + 1 - (a + 1) ≡ n + 1 = omega arith in
    c.in_ok-list_meta.ensures ∙ ap (λ (ms : List MetaEdge). ms ++ meta_edge count a b) c.loop-b.invariant
    ∙ append_assoc old (metas_behind count a n) (meta_edge count a b)
    ∙ ap (λ (ms : List MetaEdge). old ++ ms) (sym (flat_map-range_more (meta_edge count a) (a + 1) n b (omega arith)) ∙ ap (metas_behind count a) (sym same))
