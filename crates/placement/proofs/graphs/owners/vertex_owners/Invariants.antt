use Rattle.std.proofs.Common.{◌≡◌, ◌<◌, ℕ, length, get_or, All}
use Rattle.placement.specs.graphs.Placed.{atom_numbers, placed_owner}
use Rattle.placement.proofs.graphs.owners.vertex_owners.Given as goal

abbrev pub invariant-loop-atom : goal.invariant-loop-atom
invariant-loop-atom l =
    record {
      count : length l.owners.items ≡ l.atom-index;
      below : All (λ a. a.0 < l.machines) l.owners.items;
      each : (v : ℕ) → v < l.atom-index → get_or (atom_numbers l.owners.items) v 0 ≡ placed_owner l.of l.owner v;
    }
