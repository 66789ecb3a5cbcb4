use Rattle.std.proofs.Common.{length, map}
use Rattle.graph_atoms.proofs.atom_place.LoadLemmas.{Placed}
use Rattle.graph_atoms.proofs.atom_place.placing.place_in_turn.Given as goal

abbrev pub invariant-loop-atom : goal.invariant-loop-atom
invariant-loop-atom l =
    Placed l.weights l.order (map (λ m. m.0) l.owners) l.loads (length l.initial.loads) l.atom-index
