-- The numbers of vertices and edges, and what one update makes of them that may write its neighbours too.
use Rattle.std.specs.Prelude.{◌≡◌, ℕ, Bool, if◌then◌else◌, ◌==◌, List, [], ◌∷◌, map, slice_index}
use Rattle.std.specs.List.{AllByRecursion}
use Rattle.graph_core.specs.DataGraph.{DataGraph}
use Rattle.graph_core.specs.Halves.{DataHalf, halves_of}
use Rattle.seq_run.specs.States.{GraphState, near_of, with_number, is_woken}
use Rattle.full_scope.specs.FullUpdates.{Neighbour, Surroundings, FullUpdate}

-- each vertex starts as the program says, and each edge at 0
abbrev pub full_start : DataGraph → FullUpdate → GraphState
full_start g p = record { vertex = λ v. p.start (slice_index g.ids v); edge = λ e. 0 }

-- the neighbour along this half
abbrev pub neighbour_at : DataGraph → GraphState → DataHalf → Neighbour
neighbour_at g s h = record { id = slice_index g.ids h.other; near = near_of s h }

-- what an update of v sees
abbrev pub seen_around : DataGraph → GraphState → ℕ → Surroundings
seen_around g s v =
    record { id = slice_index g.ids v; own = s.vertex v; neighbours = map (neighbour_at g s) (halves_of g v) }

-- the value of the first of these halves whose key this is, and f elsewhere
abbrev pub with_each : (DataHalf → ℕ) → (DataHalf → ℕ) → List DataHalf → (ℕ → ℕ) → ℕ → ℕ
with_each key value [] f i = f i
with_each key value (h ∷ halves) f i = if i == key h then value h else with_each key value halves f i

-- an update of v writes the numbers of v, of its neighbours and of the edges at v
abbrev pub after_full : DataGraph → FullUpdate → GraphState → ℕ → GraphState
after_full g p s v =
    let seen : Surroundings = seen_around g s v in
    record {
      vertex = with_number
          (with_each (λ h. h.other) (λ h. p.near seen (neighbour_at g s h)) (halves_of g v) s.vertex)
          v (p.number seen);
      edge = with_each (λ h. h.edge) (λ h. p.mark seen (neighbour_at g s h)) (halves_of g v) s.edge;
    }

-- whether an update of v wakes u
abbrev pub full_wakes : DataGraph → FullUpdate → GraphState → ℕ → ℕ → Bool
full_wakes g p s v u = is_woken (p.woken (seen_around g s v)) (halves_of g v) u

-- the two states have the same numbers in the scope of v: of v, of its edges and of its neighbours
pub record AgreeAround (g : DataGraph) (s t : GraphState) (v : ℕ) : Type 0 where
  pub own : s.vertex v ≡ t.vertex v
  pub near : AllByRecursion (λ h. near_of s h ≡ near_of t h) (halves_of g v)
