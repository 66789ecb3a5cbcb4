use Rattle.std.proofs.Common.{◌<◌, length, sym, ap, ◌∙◌, Some, arith}
use Rattle.gl_base.specs.declared.atoms.EdgeLine.{EdgeLine}
use Rattle.graph_atoms.specs.atom_file.Atoms.{Atom}
use Rattle.graph_atoms.specs.atom_file.Views.{edge_at}
use Rattle.graph_atoms.proofs.atom_file.FormLemmas.{length-records_in, slice_get-records_in}
use Rattle.graph_atoms.proofs.atom_file.view.AtomView.edge_line.Goals as goal

pub edge_at-requires : goal.edge_at-requires
edge_at-requires c =
    let count = ap (λ (a : Atom). length a.edges) c.self.view_is in
    omega (arith, count, length-records_in edge_at 17 c.self.inside.edge_count c.self.inside.edges.now, c.self.invariant)

pub returns : goal.returns
returns c =
    let count = ap (λ (a : Atom). length a.edges) c.self.view_is in
    let inside : c.args.i < c.self.inside.edge_count = omega (arith, count, length-records_in edge_at 17 c.self.inside.edge_count c.self.inside.edges.now) in
    rw (← c.self.view_is)
    (slice_get-records_in edge_at 17 c.self.inside.edge_count c.self.inside.edges.now c.args.i inside ∙ ap (λ (line : EdgeLine). Some line) (sym c.edge_at.ensures))
