use Rattle.std.proofs.Common.{◌<◌, length, sym, ap, ◌∙◌, Some, arith}
use Rattle.gl_base.specs.declared.atoms.GhostLine.{GhostLine}
use Rattle.graph_atoms.specs.atom_file.Atoms.{Atom}
use Rattle.graph_atoms.specs.atom_file.Views.{ghost_at}
use Rattle.graph_atoms.proofs.atom_file.FormLemmas.{length-records_in, slice_get-records_in}
use Rattle.graph_atoms.proofs.atom_file.view.AtomView.ghost_line.Goals as goal

pub ghost_at-requires : goal.ghost_at-requires
ghost_at-requires c =
    let count = ap (λ (a : Atom). length a.ghosts) c.self.view_is in
    omega (arith, count, length-records_in ghost_at 15 c.self.inside.ghost_count c.self.inside.ghosts.now, c.self.invariant)

pub returns : goal.returns
returns c =
    let count = ap (λ (a : Atom). length a.ghosts) c.self.view_is in
    let inside : c.args.i < c.self.inside.ghost_count = omega (arith, count, length-records_in ghost_at 15 c.self.inside.ghost_count c.self.inside.ghosts.now) in
    rw (← c.self.view_is)
    (slice_get-records_in ghost_at 15 c.self.inside.ghost_count c.self.inside.ghosts.now c.args.i inside ∙ ap (λ (line : GhostLine). Some line) (sym c.ghost_at.ensures))
