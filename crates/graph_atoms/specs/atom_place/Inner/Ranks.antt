-- Atoms with their weights.
use Rattle.std.specs.Prelude.{◌≡◌, ℕ, List, slice_index, map, All}
use Rattle.graph_atoms.specs.declared.atom_place.falling.Rank.{Rank}
use Rattle.graph_atoms.specs.atom_place.Placing.{all_atoms}

-- the rank has the weight of its atom
abbrev pub IsRank : List ℕ → Rank → Type 0
IsRank weights r = r.weight.0 ≡ slice_index weights r.atom

-- a rank for each atom, in turn
pub record AreRanks (weights : List ℕ) (ranks : List Rank) : Type 0 where
  pub atoms : map (λ r. r.atom) ranks ≡ all_atoms weights
  pub each : All (IsRank weights) ranks
