-- Links of the half-edges at each vertex: how their rows grow, and that they fit a scope.
use Rattle.std.proofs.Common.{◌≡◌, ℕ, ◌+◌, ◌<◌, ◌||◌, true, List, [], ◌∷◌, ◌++◌, length, map, take, slice_index_or, All, AllPairs, sym, ap, ◌∙◌, subst, ⊎_elim, arith}
use Rattle.std.specs.List.{AllByRecursion}
use Rattle.std.proofs.lemmas.Bool.{or_left, or_right}
use Rattle.std.proofs.lemmas.List.{get_or-map, take_more, map-append, length-map}
use Rattle.graph_core.specs.declared.halves.Half.{Half}
use Rattle.graph_core.specs.DataGraph.{DataGraph, size, IsDataGraph}
use Rattle.graph_core.specs.Halves.{DataHalf, halves_of}
use Rattle.graph_core.specs.HalfRows.{data_half}
use Rattle.graph_core.proofs.HalvesLaws.{each-weaker, half_out, half_into, IsHalfAt, halves_are, half_other}
use Rattle.graph_core.proofs.VertexLaws.{halves_ascend}
use Rattle.update_api.specs.declared.links.Link.{Link}
use Rattle.update_api.specs.Links.{AreLinks}
use Rattle.seq_run.specs.Inner.ListedLinks.{link_half}
use Rattle.seq_run.proofs.EachOf.{each_is}
use Rattle.seq_run.proofs.Neighbours.{each-unmap}

-- one link more
pub links_more : (row : List Link) (link : Link) (halves : List Half) (i : ℕ) (d : Half) → i < length halves → link_half link ≡ data_half (slice_index_or halves i d) → map link_half row ≡ map data_half (take i halves) → map link_half (row ++ link ∷ []) ≡ map data_half (take (i + 1) halves)
links_more row link halves i d within is before =
    map-append link_half row (link ∷ []) ∙ (rw (before, is) (sym (map-append data_half (take i halves) (slice_index_or halves i d ∷ [])))) ∙ ap (map data_half) (sym (take_more halves i d within))

module _ (g : DataGraph) (is : IsDataGraph g) where
  -- each half leads one way at least
  pub halves_lead : (v : ℕ) (halves : List Half) → map data_half halves ≡ halves_of g v → All (λ half. (half.out || half.into) ≡ true) halves
  halves_lead v halves same =
      each_is (λ (half : Half). (half.out || half.into) ≡ true) halves
      (each-unmap (λ (h : DataHalf). (h.out || h.into) ≡ true) data_half halves
      (subst (AllByRecursion (λ (h : DataHalf). (h.out || h.into) ≡ true)) (sym same)
      (each-weaker (IsHalfAt g is v) (λ h. (h.out || h.into) ≡ true) (λ h half. ⊎_elim
      (λ (w : (half.edge.from ≡ v) × (h ≡ half_out g.directed h.edge half.edge)). or_left h.out h.into (ap (λ (x : DataHalf). x.out) w.1))
      (λ (w : (half.edge.to ≡ v) × (h ≡ half_into g.directed h.edge half.edge)). or_right h.out h.into (ap (λ (x : DataHalf). x.into) w.1))
      half.end) (halves_of g v) (halves_are g is v))))

  -- the links of a vertex fit its scope
  pub links_fit : (v : ℕ) (links : List Link) → map link_half links ≡ halves_of g v → AreLinks links v (size g) (length g.edges)
  links_fit v links same =
      let halves = each_is (λ link. IsHalfAt g is v (link_half link)) links (each-unmap (IsHalfAt g is v) link_half links (subst (AllByRecursion (IsHalfAt g is v)) (sym same) (halves_are g is v))) in
      let ascend = subst (AllPairs (λ (one other : DataHalf). one.edge < other.edge)) (sym same) (halves_ascend g.directed v 0 g.edges) in
      record {
        near = λ k d inside. (half_other g is v (link_half (slice_index_or links k d)) (halves k d inside)).0;
        not_centre = λ k d inside. (half_other g is v (link_half (slice_index_or links k d)) (halves k d inside)).1;
        edge = λ k d inside. let half = halves k d inside in let number = half.number in let there = half.within in omega arith;
        apart = λ i j d low inside alike.
            let long : j < length (map link_half links) = rw length-map inside in
            let less = ascend i j (link_half d) low long in
            let one = get_or-map link_half links i d (link_half d) (omega arith) in
            let other = get_or-map link_half links j d (link_half d) inside in
            let one_edge = ap (λ (x : DataHalf). x.edge) one in
            let other_edge = ap (λ (x : DataHalf). x.edge) other in
            absurd (omega (arith, less, one_edge, other_edge, alike));
      }
