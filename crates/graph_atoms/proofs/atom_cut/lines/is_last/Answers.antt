use Rattle.std.proofs.Common.{◌-◌, eqb, length, sym, ap, ◌∙◌, arith}
use Rattle.gl_base.specs.declared.atoms.GhostLine.{GhostLine}
use Rattle.graph_atoms.proofs.atom_cut.FillLemmas.{ends_in-at}
use Rattle.graph_atoms.proofs.atom_cut.lines.is_last.Goals as goal

pub returns-in-Some : goal.returns-in-Some
returns-in-Some c =
    let v = c.args.vertex.0 in
    let ghosts = c.args.ghosts.now in
    let item = c.in-Some.ensures.item in
    let at = ends_in-at v ghosts c.in-Some.last.now (length ghosts - 1) (omega (arith, item.3.0)) in
    c.eq.ensures ∙ ap (λ (l : GhostLine). eqb l.vertex.0 v) item.1 ∙ sym at
