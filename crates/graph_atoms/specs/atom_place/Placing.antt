-- Where atoms are placed: heaviest first, each on the machine with the least load.
use Rattle.std.specs.Prelude.{◌≡◌, ℕ, ◌+◌, ◌*◌, ◌<◌, ◌≤◌, ◌⊎◌, ◌==◌, if◌then◌else◌, List, length, slice_index, take, All, AllPairs, sum, sum_by}
use Rattle.std.specs.List.{range_with_len}
use Rattle.std.specs.List.Sorted.{IsPermutation}

-- atom a comes before atom b: it is heavier, or as heavy and of a lower number
abbrev pub ComesFirst : List ℕ → ℕ → ℕ → Type 0
ComesFirst weights a b =
    (slice_index weights b < slice_index weights a) ⊎ ((slice_index weights a ≡ slice_index weights b) × (a < b))

-- the numbers of all atoms
abbrev pub all_atoms : List ℕ → List ℕ
all_atoms weights = range_with_len 0 (length weights)

-- each atom stands in the order once, and in its turn
pub record IsFalling (weights order : List ℕ) : Type 0 where
  pub all : IsPermutation (all_atoms weights) order
  pub falling : AllPairs (ComesFirst weights) order

-- what these atoms weigh together on machine m
abbrev pub load_of : List ℕ → List ℕ → List ℕ → ℕ → ℕ
load_of weights owners atoms m = sum_by (λ a. if slice_index owners a == m then slice_index weights a else 0) atoms

-- no machine carries less, and each of a lower number carries more
pub record IsLeastLoaded (load : ℕ → ℕ) (machines m : ℕ) : Type 0 where
  pub below : m < machines
  pub least : (k : ℕ) → k < machines → load m ≤ load k
  pub lower : (k : ℕ) → k < m → load m < load k

-- each atom in its turn goes to the machine that carries least of those before it
pub record IsPlacing (weights : List ℕ) (machines : ℕ) (owners : List ℕ) : Type 0 where
  pub each : length owners ≡ length weights
  pub order : List ℕ
  pub falling : IsFalling weights order
  pub turns : (i : ℕ) → i < length order → IsLeastLoaded (load_of weights owners (take i order)) machines (slice_index owners (slice_index order i))

-- where no atom weighs more than the heaviest, no machine carries more than the mean load and the heaviest
abbrev pub IsBalanced : List ℕ → ℕ → List ℕ → Type 0
IsBalanced weights machines owners =
    (heaviest m : ℕ) → All (λ w. w ≤ heaviest) weights → m < machines
    → machines * load_of weights owners (all_atoms weights) m ≤ sum weights + machines * heaviest
