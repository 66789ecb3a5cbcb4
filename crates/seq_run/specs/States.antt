-- The numbers of vertices and edges, and what one update makes of them.
use Rattle.std.specs.Prelude.{ℕ, Bool, false, if◌then◌else◌, ◌==◌, ◌&&◌, List, [], ◌∷◌, map, slice_index}
use Rattle.std.specs.List.{list_any}
use Rattle.graph_core.specs.DataGraph.{DataGraph}
use Rattle.graph_core.specs.Halves.{DataHalf, halves_of}
use Rattle.update_api.specs.declared.woken.Woken.{Woken}
use Rattle.update_api.specs.declared.woken.Woken.TheVariants.{Nobody, Ahead, Around}
use Rattle.update_api.specs.Near.{Near}
use Rattle.update_api.specs.Updates.{Update}

-- One number for each vertex and one for each edge.
pub record GraphState : Type 0 where
  pub vertex : ℕ → ℕ
  pub edge : ℕ → ℕ

-- each vertex starts as the program says, and each edge at 0
abbrev pub start_state : DataGraph → Update → GraphState
start_state g p = record { vertex = λ v. p.start (slice_index g.ids v); edge = λ e. 0 }

-- what lies near along this half
abbrev pub near_of : GraphState → DataHalf → Near
near_of s h = record { number = s.vertex h.other; mark = s.edge h.edge; weight = h.weight; out = h.out; into = h.into }

-- the number that an update of v gives it
abbrev pub new_number : DataGraph → Update → GraphState → ℕ → ℕ
new_number g p s v = p.number (s.vertex v) (map (near_of s) (halves_of g v))

-- x for k, and f for each other one
abbrev pub with_number : (ℕ → ℕ) → ℕ → ℕ → ℕ → ℕ
with_number f k x i = if i == k then x else f i

-- the numbers of edges after these were marked, where the vertex at which they meet has its new number
abbrev pub with_marks : Update → GraphState → ℕ → List DataHalf → ℕ → ℕ
with_marks p s own [] e = s.edge e
with_marks p s own (h ∷ halves) e = if e == h.edge then p.mark own (near_of s h) else with_marks p s own halves e

-- an update of v writes the number of v and of the edges at v
abbrev pub after_update : DataGraph → Update → GraphState → ℕ → GraphState
after_update g p s v =
    record {
      vertex = with_number s.vertex v (new_number g p s v);
      edge = with_marks p s (new_number g p s v) (halves_of g v);
    }

-- u is one of those woken, where these are the halves at the vertex that was updated
abbrev pub is_woken : Woken → List DataHalf → ℕ → Bool
is_woken Nobody halves u = false
is_woken Ahead halves u = list_any (λ h. h.out && h.other == u) halves
is_woken Around halves u = list_any (λ h. h.other == u) halves

-- whether an update of v wakes u
abbrev pub wakes : DataGraph → Update → GraphState → ℕ → ℕ → Bool
wakes g p s v u = is_woken (p.woken (s.vertex v) (new_number g p s v)) (halves_of g v) u
