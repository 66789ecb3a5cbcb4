use Rattle.std.proofs.Common.{◌≡◌, ◌<◌, ℕ, length}
use Rattle.full_cluster.specs.Owners.{owner_in}
use Rattle.placement.specs.graphs.Placed.{placed_owner}
use Rattle.engine_cli.proofs.pairing.owners_of.Given as goal

abbrev pub invariant-loop-atom : goal.invariant-loop-atom
invariant-loop-atom l =
    record {
      count : length l.owner.items ≡ l.atom-index;
      each : (v : ℕ) → v < l.atom-index → owner_in l.owner.items v ≡ placed_owner l.placed.of.items l.placed.owner.items v;
    }
