use Rattle.std.proofs.Common.{length, ap, arith}
use Rattle.graph_atoms.specs.atom_cut.Cuts.{atom_numbers}
use Rattle.graph_atoms.specs.atom_cut.MetaEdges.{edges_between}
use Rattle.graph_atoms.proofs.atom_cut.IndexLemmas.{lines_few, metas_few}
use Rattle.graph_atoms.proofs.atom_cut.cutting.index_under.Goals as goal

pub index_of-requires-clause-lines : goal.index_of-requires-clause-lines
index_of-requires-clause-lines c =
    lines_few c.args.graph.now (atom_numbers c.args.of.now) c.args.atoms c.args.lines.now c.in_ok-metas.ensures.graph c.requires.lines

pub index_of-requires-clause-few : goal.index_of-requires-clause-few
index_of-requires-clause-few c =
    let g = c.args.graph.now in
    let few = metas_few (edges_between g (atom_numbers c.args.of.now) (length g.edges)) c.args.atoms c.requires.few in
    omega (arith, few, ap length c.deref.ensures.value, ap length c.in_ok-metas.ensures.metas)
