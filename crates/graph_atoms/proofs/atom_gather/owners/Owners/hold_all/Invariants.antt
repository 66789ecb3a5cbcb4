use Rattle.std.proofs.Common.{ℕ, ◌++◌, List, map, take}
use Rattle.graph_atoms.specs.atom_gather.Owners.{with_atom, AreHeld}
use Rattle.graph_atoms.proofs.atom_gather.owners.Owners.hold_all.Given as goal

abbrev pub invariant-loop-i : goal.invariant-loop-i
invariant-loop-i l =
    (n : ℕ) (added : List (ℕ × ℕ)) → AreHeld n added l.fn.self → AreHeld n (added ++ with_atom l.atom.0 (map (λ v. v.vertex.0) (take l.i l.view.vertices))) l.self
