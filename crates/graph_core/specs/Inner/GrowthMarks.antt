-- Marks of the vertices that are listed.
use Rattle.std.specs.Prelude.{◌≡◌, ℕ, suc, ◌<◌, ◌≤◌, Bool, false, nat_eq, List, [], ◌∷◌, ◌++◌, length, slice_index_or, All, count_by}
use Rattle.std.specs.List.{IsDistinct}
use Rattle.graph_core.specs.DataGraph.{DataGraph}
use Rattle.graph_core.specs.Growth.{is_listed, seeded, extended, listed_after}

-- the vertices that are listed are marked, and each stands once
pub record AreMarks (listed : List ℕ) (marks : List Bool) : Type 0 where
  pub same : (v : ℕ) → v < length marks → slice_index_or marks v false ≡ is_listed listed v
  pub below : All (λ v. v < length marks) listed
  pub apart : IsDistinct nat_eq listed
  pub count : count_by (λ marked. marked) marks ≡ length listed

-- what is listed grows by the vertex at this place, or has grown as far as it goes
pub record IsGrowing (g : DataGraph) (first : ℕ) (listed : List ℕ) (place : ℕ) : Type 0 where
  pub within : place ≤ length listed
  pub next : place < length listed → extended g place listed ≡ listed_after g first (suc place)
  pub ended : length listed ≤ place → listed ≡ listed_after g first place

-- all that is listed was taken, and the seed is the next where it is not marked
pub record IsNextSeed (g : DataGraph) (first seed : ℕ) (listed : List ℕ) (marks : List Bool) : Type 0 where
  pub grown : listed ≡ listed_after g first (length listed)
  pub next : slice_index_or marks seed false ≡ false → seeded g first (length listed) listed ≡ listed ++ seed ∷ []
