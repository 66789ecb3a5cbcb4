use Rattle.graph_atoms.proofs.atom_cut.IndexLemmas.{behind_three}
use Rattle.graph_atoms.proofs.atom_cut.index.push_head.Goals as goal

pub returns : goal.returns
returns c =
    behind_three c.args.index.now.items _ _ _ _ c.args.digest _ _ c.in_ok-extend_from_slice.ensures.items c.in_ok-extend_from_slice-2.ensures.items c.in_ok-extend_from_slice-3.ensures.items c.kind_and_count.ensures
