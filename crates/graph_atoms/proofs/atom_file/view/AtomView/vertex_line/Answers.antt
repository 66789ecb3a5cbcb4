use Rattle.std.proofs.Common.{◌<◌, length, sym, ap, ◌∙◌, Some, arith}
use Rattle.gl_base.specs.declared.atoms.VertexLine.{VertexLine}
use Rattle.graph_atoms.specs.atom_file.Atoms.{Atom}
use Rattle.graph_atoms.specs.atom_file.Views.{vertex_at}
use Rattle.graph_atoms.proofs.atom_file.FormLemmas.{length-records_in, slice_get-records_in}
use Rattle.graph_atoms.proofs.atom_file.view.AtomView.vertex_line.Goals as goal

pub vertex_at-requires : goal.vertex_at-requires
vertex_at-requires c =
    let count = ap (λ (a : Atom). length a.vertices) c.self.view_is in
    omega (arith, count, length-records_in vertex_at 13 c.self.inside.vertex_count c.self.inside.vertices.now, c.self.invariant)

pub returns : goal.returns
returns c =
    let count = ap (λ (a : Atom). length a.vertices) c.self.view_is in
    let inside : c.args.i < c.self.inside.vertex_count = omega (arith, count, length-records_in vertex_at 13 c.self.inside.vertex_count c.self.inside.vertices.now) in
    rw (← c.self.view_is)
    (slice_get-records_in vertex_at 13 c.self.inside.vertex_count c.self.inside.vertices.now c.args.i inside ∙ ap (λ (line : VertexLine). Some line) (sym c.vertex_at.ensures))
