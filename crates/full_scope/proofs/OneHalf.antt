-- At a vertex an edge has one half, and where edges have no direction each neighbour has one.
use Rattle.std.proofs.Common.{◌≡◌, ◌⊎◌, ℕ, ◌<◌, false, slice_index_or, sym, ◌∙◌, ap, subst, inl, inr, ⊎_elim, arith}
use Rattle.std.proofs.lemmas.Bool.{cases_order}
use Rattle.std.proofs.lemmas.List.{get_or_default}
use Rattle.graph_core.specs.DataGraph.{DataEdge, DataGraph, IsBefore, IsDataGraph}
use Rattle.graph_core.specs.Halves.{DataHalf}
use Rattle.graph_core.proofs.HalvesLaws.{half_out, half_into, IsHalfAt, half_edge}

module _ (g : DataGraph) (is : IsDataGraph g) (v : ℕ) where
  -- halves of one edge are one
  pub one_half : (h k : DataHalf) → IsHalfAt g is v h → IsHalfAt g is v k → h.edge ≡ k.edge → h ≡ k
  one_half h k one other same =
      let place : one.place ≡ other.place = let a = one.number in let b = other.number in omega arith in
      let edge : one.edge ≡ other.edge =
      sym one.at ∙ get_or_default g.edges one.place one.edge other.edge one.within ∙ ap (λ (i : ℕ). slice_index_or g.edges i other.edge) place ∙ other.at in
      let apart = (half_edge g is v k other).apart in ⊎_elim
      (λ (w : (one.edge.from ≡ v) × (h ≡ half_out g.directed h.edge one.edge)). ⊎_elim
      (λ (u : (other.edge.from ≡ v) × (k ≡ half_out g.directed k.edge other.edge)).
      w.1 ∙ (λ i. half_out g.directed (same i) (edge i)) ∙ sym u.1)
      (λ (u : (other.edge.to ≡ v) × (k ≡ half_into g.directed k.edge other.edge)).
      absurd (apart (sym (ap (λ (e : DataEdge). e.from) edge) ∙ w.0 ∙ sym u.0)))
      other.end)
      (λ (w : (one.edge.to ≡ v) × (h ≡ half_into g.directed h.edge one.edge)). ⊎_elim
      (λ (u : (other.edge.from ≡ v) × (k ≡ half_out g.directed k.edge other.edge)).
      absurd (apart (u.0 ∙ sym w.0 ∙ ap (λ (e : DataEdge). e.to) edge)))
      (λ (u : (other.edge.to ≡ v) × (k ≡ half_into g.directed k.edge other.edge)).
      w.1 ∙ (λ i. half_into g.directed (same i) (edge i)) ∙ sym u.1)
      other.end)
      one.end

  -- the two ends of the edge are v and the other end
  pub half_ends : (h : DataHalf) (half : IsHalfAt g is v h) → ((half.edge.from ≡ v) × (half.edge.to ≡ h.other)) ⊎ ((half.edge.from ≡ h.other) × (half.edge.to ≡ v))
  half_ends h half = ⊎_elim
      (λ (w : (half.edge.from ≡ v) × (h ≡ half_out g.directed h.edge half.edge)). inl (w.0, sym (ap (λ (x : DataHalf). x.other) w.1)))
      (λ (w : (half.edge.to ≡ v) × (h ≡ half_into g.directed h.edge half.edge)). inr (sym (ap (λ (x : DataHalf). x.other) w.1), w.0))
      half.end

  -- edges that join the same two can't stand at different places
  none_before : g.directed ≡ false → (h k : DataHalf) (one : IsHalfAt g is v h) (other : IsHalfAt g is v k) → h.other ≡ k.other → one.place < other.place → ⊥
  none_before undirected h k one other same less =
      let d = one.edge in
      let e = one.edge in
      let f = other.edge in
      let e_lower : e.from < e.to = (half_edge g is v h one).lower undirected in
      let f_lower : f.from < f.to = (half_edge g is v k other).lower undirected in
      let second : slice_index_or g.edges other.place d ≡ f = get_or_default g.edges other.place d f other.within ∙ other.at in
      let before : IsBefore e f = subst (λ (x : DataEdge). IsBefore e x) second (subst (λ (x : DataEdge). IsBefore x (slice_index_or g.edges other.place d)) one.at (is.edges_ascending one.place other.place d less other.within)) in
      let e_ends = half_ends h one in
      let f_ends = half_ends k other in
      omega arith

  pub one_edge : g.directed ≡ false → (h k : DataHalf) → IsHalfAt g is v h → IsHalfAt g is v k → h.other ≡ k.other → h.edge ≡ k.edge
  one_edge undirected h k one other same =
      let a = one.number in
      let b = other.number in ⊎_elim
      (λ (place : one.place ≡ other.place). omega arith)
      (λ (apart : (one.place < other.place) ⊎ (other.place < one.place)). ⊎_elim
      (λ (less : one.place < other.place). absurd (none_before undirected h k one other same less))
      (λ (more : other.place < one.place). absurd (none_before undirected k h other one (sym same) more))
      apart)
      (cases_order one.place other.place)
