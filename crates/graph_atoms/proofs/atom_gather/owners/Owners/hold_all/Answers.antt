use Rattle.std.proofs.Common.{ℕ, ◌++◌, List, map, subst, take}
use Rattle.graph_atoms.specs.atom_gather.Owners.{with_atom, AreHeld}
use Rattle.graph_atoms.proofs.atom_gather.HoldLemmas.{with_atom_more}
use Rattle.graph_atoms.proofs.atom_gather.owners.Owners.hold_all.Goals as goal

pub loop-i-preserved : goal.loop-i-preserved
loop-i-preserved c = λ n added are.
    let a = c.args.atom.0 in
    let vs = c.args.view.now.vertices in
    let i = c.loop-i.i in
    subst (λ (ps : List (ℕ × ℕ)). AreHeld n ps c.hold.new.self) (with_atom_more a added vs i c.vertex_line.result c.vertex_line.ensures)
    (c.hold.ensures n (added ++ with_atom a (map (λ l. l.vertex.0) (take i vs))) (c.loop-i.invariant n added are))
