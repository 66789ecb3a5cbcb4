-- The copies that machines keep: with what is on the way to them they are true.
use Rattle.std.specs.List.{AllByRecursion}
use Rattle.std.specs.Prelude.{false, length, true, ℕ, ◌<◌, ◌≡◌, ◌≢◌, ◌⊎◌}
use Rattle.cluster_laws.specs.cluster_core.Scopes.{takes_part}
use Rattle.cluster_laws.specs.cluster_core.Settings.{Setting, nth_edge}
use Rattle.cluster_laws.specs.cluster_core.Ways.{IsToldTo, datum_told, edge_changed, edge_told}
use Rattle.cluster_laws.specs.cluster_core.Worlds.{World, way}
use Rattle.graph_core.specs.DataGraph.{size}

-- the number of edge e at machine a, once the messages that are on the way from b have come
abbrev pub edge_to_come : World → ℕ → ℕ → ℕ → ℕ
edge_to_come w e a b = edge_told e (way w b a) ((w.part a).edge e)

-- the owners of the two ends of edge e
abbrev pub from_owner : Setting → ℕ → ℕ
from_owner st e = st.owner (nth_edge st e).from

-- the owner of its other end
abbrev pub to_owner : Setting → ℕ → ℕ
to_owner st e = st.owner (nth_edge st e).to

-- the number of edge e, once all that is on the way has come
abbrev pub agreed : Setting → World → ℕ → ℕ
agreed st w e = edge_to_come w e (from_owner st e) (to_owner st e)

-- Each copy is, or will be once what is on the way has come, what its owner has.
pub record AreCopies (st : Setting) (w : World) : Type 0 where
  -- what is told is told by the owner of what changed, and to whom it concerns
  pub told : (p q : ℕ) → AllByRecursion (IsToldTo st p q) (way w p q)
  -- each copy of a vertex's datum, with what is on the way to it, is the owner's
  pub vertices_agree : (v a : ℕ) → v < size st.graph → takes_part st v a ≡ true → a ≢ st.owner v →
      datum_told v (way w (st.owner v) a) ((w.part a).datum v) ≡ (w.part (st.owner v)).datum v
  -- the two copies of an edge's number agree once all has come, and only one of the two is still to change
  pub edges_agree : (e : ℕ) → e < length st.graph.edges →
      edge_to_come w e (from_owner st e) (to_owner st e) ≡ edge_to_come w e (to_owner st e) (from_owner st e)
  pub one_way : (e : ℕ) → e < length st.graph.edges →
      (edge_changed e (way w (from_owner st e) (to_owner st e)) ≡ false) ⊎ (edge_changed e (way w (to_owner st e) (from_owner st e)) ≡ false)
