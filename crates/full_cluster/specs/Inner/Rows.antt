-- The numbers along the edges at a vertex, as a row that is lent: first those of the other ends, and behind them those of the edges.
use Rattle.std.specs.List.{list_any}
use Rattle.std.specs.Prelude.{Bool, ◌==◌, ◌&&◌, ◌≡◌, ◌≢◌, ℕ, ◌+◌, ◌<◌, ◌≤◌, List, false, length, slice_index, slice_index_or}
use Rattle.graph_core.specs.declared.halves.Half.{Half}
use Rattle.graph_core.specs.DataGraph.{DataGraph}
use Rattle.graph_core.specs.HalfRows.{data_half}
use Rattle.update_api.specs.declared.woken.Woken.{Woken}
use Rattle.seq_run.specs.Inner.Waking.{is_woken_along}
use Rattle.full_scope.specs.declared.links.FullLink.{FullLink}
use Rattle.full_scope.specs.FullLinks.{no_full_link}
use Rattle.full_scope.specs.FullRows.{IsFullLink}

-- the i-th of these halves
abbrev pub no_half : Half
no_half = record { edge = record { 0 = 0 }; other = record { 0 = 0 }; weight = 0; out = false; into = false }

abbrev pub nth_half : List Half → ℕ → Half
nth_half halves i = slice_index_or halves i no_half

-- the links are those of the halves, each at its place
pub record AreLinksOf (g : DataGraph) (halves : List Half) (links : List FullLink) : Type 0 where
  pub count : length links ≡ length halves
  pub each : (i : ℕ) → i < length halves → IsFullLink g (slice_index_or links i no_full_link) (data_half (nth_half halves i))

-- the row has the numbers along the halves
pub record IsRowAlong (halves : List Half) (numbers edges row : List ℕ) : Type 0 where
  pub count : length row ≡ length halves + length halves
  pub nears : (i : ℕ) → i < length halves → slice_index row i ≡ slice_index numbers (nth_half halves i).other.0
  pub marks : (i : ℕ) → i < length halves → slice_index row (length halves + i) ≡ slice_index edges (nth_half halves i).edge.0

-- Each number is that of f: at the first of these places by the row, and elsewhere already before. Those at places from i on are
-- still to be written.
abbrev pub ComesSoFar : (ℕ → ℕ) → (ℕ → ℕ) → ℕ → List ℕ → ℕ → List ℕ → Type 0
ComesSoFar place row count old i now =
    (f : ℕ → ℕ) → ((k : ℕ) → k < count → row k ≡ f (place k)) →
    ((x : ℕ) → x < length old → ((k : ℕ) → k < count → place k ≢ x) → slice_index old x ≡ f x) →
    (x : ℕ) → x < length old → ((k : ℕ) → i ≤ k → k < count → place k ≢ x) → slice_index now x ≡ f x

-- all are written
abbrev pub ComesFrom : (ℕ → ℕ) → (ℕ → ℕ) → ℕ → List ℕ → List ℕ → Type 0
ComesFrom place row count old new =
    (f : ℕ → ℕ) → ((k : ℕ) → k < count → row k ≡ f (place k)) →
    ((x : ℕ) → x < length old → ((k : ℕ) → k < count → place k ≢ x) → slice_index old x ≡ f x) →
    (x : ℕ) → x < length old → slice_index new x ≡ f x

-- the links of the first halves
pub record AreLinksSoFar (g : DataGraph) (halves : List Half) (i : ℕ) (links : List FullLink) : Type 0 where
  pub count : length links ≡ i
  pub each : (k : ℕ) → k < i → IsFullLink g (slice_index_or links k no_full_link) (data_half (nth_half halves k))

-- the numbers of the other ends of the first halves
pub record AreEndsSoFar (halves : List Half) (numbers : List ℕ) (i : ℕ) (row : List ℕ) : Type 0 where
  pub count : length row ≡ i
  pub nears : (k : ℕ) → k < i → slice_index row k ≡ slice_index numbers (nth_half halves k).other.0

-- all of these, and the numbers of the edges of the first halves
pub record AreEdgesSoFar (halves : List Half) (numbers edges : List ℕ) (i : ℕ) (row : List ℕ) : Type 0 where
  pub count : length row ≡ length halves + i
  pub nears : (k : ℕ) → k < length halves → slice_index row k ≡ slice_index numbers (nth_half halves k).other.0
  pub marks : (k : ℕ) → k < i → slice_index row (length halves + k) ≡ slice_index edges (nth_half halves k).edge.0

-- machine me owns u, and an update with these halves wakes it
abbrev pub wakes_own : (ℕ → ℕ) → ℕ → Woken → List Half → ℕ → Bool
wakes_own owner me woken halves u = list_any (λ (h : Half). (owner h.other.0 == me && is_woken_along woken h.out) && h.other.0 == u) halves
