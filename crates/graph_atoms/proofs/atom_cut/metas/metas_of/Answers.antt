use Rattle.std.proofs.Common.{◌≡◌, List, IfOk, ap, ◌∙◌, subst}
use Rattle.graph_atoms.specs.declared.atom_cut.metas.MetaEdge.{MetaEdge}
use Rattle.graph_atoms.specs.atom_cut.Cuts.{atom_numbers}
use Rattle.graph_atoms.specs.atom_cut.Inner.Counting.{count_in}
use Rattle.graph_atoms.specs.atom_cut.MetaEdges.{metas_among}
use Rattle.graph_atoms.proofs.atom_cut.CountLemmas.{metas_counted}
use Rattle.graph_atoms.proofs.atom_cut.metas.metas_of.Goals as goal

pub returns-clause-metas : goal.returns-clause-metas
returns-clause-metas c =
    let k = c.args.atoms in
    let same = ap (λ counts. metas_among (count_in k counts) k) c.deref.ensures.value ∙ metas_counted c.args.graph.now (atom_numbers c.args.of.now) k _ c.in_ok-counts.ensures.counts in
    subst (λ (all : List MetaEdge). IfOk c.list_metas.result (λ metas. metas.items ≡ all)) same c.list_metas.ensures
