use Rattle.std.proofs.Common.{ap, ◌∙◌}
use Rattle.gl_base.specs.declared.atoms.Lines.{Lines}
use Rattle.graph_atoms.specs.atom_file.Atoms.{atom_of}
use Rattle.graph_atoms.specs.atom_cut.Index.{count_bytes}
use Rattle.graph_atoms.proofs.atom_cut.IndexLemmas.{flat_map-take_more}
use Rattle.graph_atoms.proofs.atom_cut.index.push_counts.Goals as goal

pub loop-atom-preserved : goal.loop-atom-preserved
loop-atom-preserved c =
    flat_map-take_more (λ (l : Lines). count_bytes (atom_of 0 l)) c.args.lines.now c.loop-atom.atom-index c.atom-item.result c.args.index.now.items c.loop-atom.index.items _ c.count_record.result c.loop-atom-test.true c.loop-atom.invariant (c.count_record.ensures ∙ ap (λ (l : Lines). count_bytes (atom_of 0 l)) c.atom-item.is) c.in_ok-extend_from_slice.ensures.items
