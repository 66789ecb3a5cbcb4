use Rattle.std.proofs.Common.{◌≡◌, ◌++◌, ℕ, List, map, sym, ap, ◌∙◌, subst}
use Rattle.graph_atoms.specs.atom_gather.Owners.{vertices_added, with_atom, AreHeld}
use Rattle.graph_atoms.proofs.atom_gather.VertexLemmas.{vertices_of_file}
use Rattle.graph_atoms.proofs.atom_gather.owners.Owners.add.Goals as goal

pub returns-in-Ok-clause-added : goal.returns-in-Ok-clause-added
returns-in-Ok-clause-added c = λ n added are.
    let atom = c.in-Ok.view in
    let same : vertices_added c.args.bytes.now ≡ map (λ l. l.vertex.0) atom.vertices =
    ap vertices_added c.in-Ok.ensures.bytes ∙ vertices_of_file atom c.in-Ok.ensures.atom c.in-Ok.ensures.fits in
    subst (λ (vs : List ℕ). AreHeld n (added ++ with_atom c.args.atom.0 vs) c.hold_all.new.self) (sym same) (c.hold_all.ensures n added are)
