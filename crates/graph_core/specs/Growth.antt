-- The order of growth: breadth-first over the whole graph.
use Rattle.std.specs.Prelude.{◌≡◌, ℕ, zero, suc, ◌<◌, ◌==◌, Bool, true, not, if◌then◌else◌, nat_eq, nat_lt, List, [], ◌∷◌, ◌++◌, length, map, take, slice_index, All}
use Rattle.std.specs.List.{filter, list_any, range_with_len, IsDistinct}
use Rattle.gl_base.specs.declared.numbers.Vertex.{Vertex}
use Rattle.graph_core.specs.DataGraph.{DataGraph, size}
use Rattle.graph_core.specs.Neighbours.{neighbours_of}

-- the numbers of vertices
abbrev pub numbers_of : List Vertex → List ℕ
numbers_of vertices = map (λ v. v.0) vertices

-- the vertex stands in the list
abbrev pub is_listed : List ℕ → ℕ → Bool
is_listed listed v = list_any (λ u. v == u) listed

-- those of some vertices that are not listed
abbrev pub unlisted : List ℕ → List ℕ → List ℕ
unlisted listed vertices = filter (λ v. not (is_listed listed v)) vertices

-- where all that is listed was taken off the queue, the next seed is listed too: the first vertex, and later the least that is not listed
abbrev pub seeded : DataGraph → ℕ → ℕ → List ℕ → List ℕ
seeded g first taken listed =
    if nat_lt taken (length listed) then listed else listed ++ take 1 (unlisted listed (first ∷ range_with_len 0 (size g)))

-- behind what is listed, the neighbours of the vertex at this place that are not listed, ascending
abbrev pub extended : DataGraph → ℕ → List ℕ → List ℕ
extended g place listed = listed ++ unlisted listed (neighbours_of g (slice_index listed place))

-- what is listed when so many vertices were taken off the front of the queue: the queue is what is listed behind them
abbrev pub listed_after : DataGraph → ℕ → ℕ → List ℕ
listed_after g first zero = []
listed_after g first (suc taken) = extended g taken (seeded g first taken (listed_after g first taken))

-- the order of growth: what is listed in the end
abbrev pub growth_order : DataGraph → ℕ → List ℕ
growth_order g first = listed_after g first (size g)

-- each number below n stands in the list once, and no other
pub record ListsEach (n : ℕ) (listed : List ℕ) : Type 0 where
  pub count : length listed ≡ n
  pub below : All (λ v. v < n) listed
  pub apart : IsDistinct nat_eq listed
  pub all : (v : ℕ) → v < n → is_listed listed v ≡ true
