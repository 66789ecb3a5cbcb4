-- Core numbers.
use Rattle.std.specs.Prelude.{◌≡◌, ℕ, zero, suc, ◌+◌, ◌<◌, ◌≤◌, Bool, true, if◌then◌else◌, ◌&&◌}
use Rattle.std.specs.List.{list_any}
use Rattle.graph_core.specs.DataGraph.{DataGraph, size}
use Rattle.graph_core.specs.Colourings.{joins}

-- how many vertices below n are neighbours of v and among the members
abbrev pub neighbours_below : DataGraph → (ℕ → Bool) → ℕ → ℕ → ℕ
neighbours_below g members v zero = 0
neighbours_below g members v (suc n) = (if list_any (joins v n) g.edges && members n then 1 else 0) + neighbours_below g members v n

-- each member has at least k neighbours among the members
abbrev pub IsCore : DataGraph → (ℕ → Bool) → ℕ → Type 0
IsCore g members k = (v : ℕ) → v < size g → members v ≡ true → k ≤ neighbours_below g members v (size g)

-- the greatest k for which v is a member of such a core
pub record IsCoreNumber (g : DataGraph) (v k : ℕ) : Type 0 where
  pub within : (members : ℕ → Bool) × (members v ≡ true) × IsCore g members k
  pub greatest : (members : ℕ → Bool) (j : ℕ) → members v ≡ true → IsCore g members j → j ≤ k
