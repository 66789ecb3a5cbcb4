-- Both halves of each edge in one list, and the other ends of half-edges.
use Rattle.std.specs.Prelude.{ℕ, suc, Bool, true, not, List, [], ◌∷◌, map}
use Rattle.gl_base.specs.declared.numbers.Vertex.{Vertex}
use Rattle.graph_core.specs.declared.edges.Edge.{Edge}
use Rattle.graph_core.specs.declared.halves.Half.{Half}
use Rattle.graph_core.specs.Distinct.{AreDistinctOf}

-- edge k where it begins
abbrev pub half_out : Bool → ℕ → Edge → Half
half_out directed k e = record { edge = record { 0 = k }; other = e.to; weight = e.weight; out = true; into = not directed }

-- edge k where it ends
abbrev pub half_into : Bool → ℕ → Edge → Half
half_into directed k e = record { edge = record { 0 = k }; other = e.from; weight = e.weight; out = not directed; into = true }

-- both halves of each edge behind the vertices where they are; the edges are numbered from k on
abbrev pub half_pairs : Bool → ℕ → List Edge → List (ℕ × Half)
half_pairs directed k [] = []
half_pairs directed k (e ∷ edges) = (e.from.0, half_out directed k e) ∷ (e.to.0, half_into directed k e) ∷ half_pairs directed (suc k) edges

-- the other ends of these half-edges, each once, ascending
abbrev pub AreOthers : List Half → List Vertex → Type 0
AreOthers halves others = AreDistinctOf (map (λ h. h.other.0) halves) (map (λ v. v.0) others)
