-- What is given along the half-edges at a vertex.
use Rattle.std.specs.List.{list_any}
use Rattle.std.specs.Prelude.{◌≡◌, ℕ, ◌<◌, ◌==◌, ◌&&◌, ◌||◌, Bool, List, if◌then◌else◌}
use Rattle.graph_core.specs.declared.halves.Half.{Half}
use Rattle.seq_run.specs.States.{GraphState}
use Rattle.update_api.specs.declared.woken.Woken.{Woken}
use Rattle.full_cluster.specs.declared.giving.FullGift.{FullGift}
use Rattle.full_cluster.specs.Given.{IsWithin, edge_after, is_listed, vertex_after}
use Rattle.full_cluster.specs.Inner.Rows.{wakes_own}

-- one of the halves leads to x, and machine q owns that
abbrev pub leads_to_own : (ℕ → ℕ) → ℕ → List Half → ℕ → Bool
leads_to_own owner q halves x = list_any (λ (h : Half). owner h.other.0 == q && h.other.0 == x) halves

-- one of the halves is of edge e, and machine q owns its other end
abbrev pub shares_edge : (ℕ → ℕ) → ℕ → List Half → ℕ → Bool
shares_edge owner q halves e = list_any (λ (h : Half). owner h.other.0 == q && h.edge.0 == e) halves

-- The gift has besides the numbers of the half's other end and of its edge in this state, and wakes that end, if this says so.
pub record IsAdded (s : GraphState) (half : Half) (is_woken : Bool) (old new : FullGift) : Type 0 where
  pub vertices : (x here : ℕ) → vertex_after new.numbers.items x here
      ≡ (if half.other.0 == x then s.vertex half.other.0 else vertex_after old.numbers.items x here)
  pub edges : (e here : ℕ) → edge_after new.edges.items e here
      ≡ (if half.edge.0 == e then s.edge half.edge.0 else edge_after old.edges.items e here)
  pub wakes : (u : ℕ) → is_listed new.wakes.items u ≡ ((is_woken && half.other.0 == u) || is_listed old.wakes.items u)
  pub within : (n m : ℕ) → half.other.0 < n → half.edge.0 < m → IsWithin n m old → IsWithin n m new

-- The gift has what machine q is given along these halves in this state.
pub record IsGivenAlong (owner : ℕ → ℕ) (q : ℕ) (woken : Woken) (s : GraphState) (halves : List Half) (gift : FullGift) : Type 0 where
  pub vertices : (x here : ℕ) → vertex_after gift.numbers.items x here
      ≡ (if leads_to_own owner q halves x then s.vertex x else here)
  pub edges : (e here : ℕ) → edge_after gift.edges.items e here
      ≡ (if shares_edge owner q halves e then s.edge e else here)
  pub wakes : (u : ℕ) → is_listed gift.wakes.items u ≡ wakes_own owner q woken halves u
