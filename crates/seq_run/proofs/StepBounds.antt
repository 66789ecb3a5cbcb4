-- The step bound of each program.
use Rattle.std.proofs.Common.{◌≡◌, ℕ, ◌+◌, ◌-◌, ◌*◌, ◌^◌, ◌<◌, ◌≤◌, ◌&&◌, min, nat_lt, true, false, List, length, slice_index, slice_index_or, refl, sym, ◌∙◌, subst, ap, inl, inr, ⊎_elim, arith, eq-eqb, ltb-true, lt-ltb, le-ltb}
use Rattle.std.specs.List.{list_any}
use Rattle.std.proofs.lemmas.Bool.{cases_eq, and_left, false_from_ne_true}
use Rattle.std.proofs.lemmas.List.Folds.{list_any_none}
use Rattle.gl_base.specs.declared.entries.Entry.{Entry}
use Rattle.gl_base.specs.declared.jobs.Algorithm.TheVariants.{Levels, Components, Paths, Colours, Cores}
use Rattle.graph_core.specs.DataGraph.{DataEdge, DataGraph, size, IsDataGraph}
use Rattle.graph_core.specs.Colourings.{joins}
use Rattle.graph_core.specs.Halves.{halves_of}
use Rattle.update_api.specs.declared.woken.Woken.TheVariants.{Ahead}
use Rattle.update_api.specs.Updates.{Update, where_changed, start_at, update_of_levels, update_of_components, update_of_paths, update_of_colours, update_of_cores}
use Rattle.seq_run.specs.States.{new_number}
use Rattle.seq_run.specs.Orders.{IsValidOrder}
use Rattle.seq_run.specs.StepBound.{updates_since_restart, greatest_weight, steps_at_most, step_bound}
use Rattle.seq_run.proofs.Sums.{count_below, count_below-le, count_below-less}
use Rattle.seq_run.proofs.Relaxing.{Relaxes, new_number-own}
use Rattle.seq_run.proofs.Reach.{takes_reached, Reaches, starts_well, fallen, goes, new_within}
use Rattle.seq_run.proofs.LevelsAndPaths.{levels_relax, paths_relax, weights_few, weight-le-greatest}
use Rattle.seq_run.proofs.Labels.{takes_all, offer_same, components_relax, Labels, labels_start, labels_goes, new_joined}
use Rattle.seq_run.proofs.Neighbours.{joined-leads}
use Rattle.seq_run.proofs.Ties.{ties-all}
use Rattle.seq_run.proofs.Cores.{edges_apart, halves_low, new_core-own, new_core-degree}
use Rattle.seq_run.proofs.FallingRanks.{bounded}

module _ (g : DataGraph) (is : IsDataGraph g) where
  -- numbers that were reached are at most (n - 1) times the greatest cost of an edge
  module _ (source : ℕ) (source_within : source < size g) (p : Update) (cost : ℕ → ℕ) (most : ℕ) (few : most < 2 ^ 32) (low_cost : (k : ℕ) (e : DataEdge) → k < length g.edges → slice_index_or g.edges k e ≡ e → cost e.weight ≤ most) (starts : (id : ℕ) → p.start id ≡ start_at (slice_index g.ids source) id) (relaxes : Relaxes takes_reached (λ x w. x + cost w) g p) (says : (old new : ℕ) → p.woken old new ≡ where_changed Ahead old new) where
    reach_bound : (order : List Entry) → IsValidOrder g p order → updates_since_restart order ≤ steps_at_most g ((size g - 1) * most + 1)
    reach_bound order valid =
        bounded g is p (Reaches g is source source_within p cost most few low_cost starts relaxes) (goes g is source source_within p cost most few low_cost starts relaxes)
        (λ x. min x ((size g - 1) * most + 1)) ((size g - 1) * most + 1) (λ x. omega arith)
        (λ s v within good.
        let old = s.vertex v in
        let new = new_number g p s v in ⊎_elim
        (λ (same : old ≡ new). inl (says old new ∙ (rw (eq-eqb old new same) refl), omega arith))
        (λ (differ : old ≡ new → ⊥).
        let falls = fallen g is source source_within p cost most few low_cost starts relaxes s v in
        let low = new_within g is source source_within p cost most few low_cost starts relaxes s v within good (omega arith) in
        inr (omega arith))
        (cases_eq old new))
        order valid (starts_well g is source source_within p cost most few low_cost starts relaxes)

  pub levels_bound : (source : ℕ) → source < size g → (order : List Entry) → IsValidOrder g (update_of_levels (slice_index g.ids source)) order → updates_since_restart order ≤ step_bound g Levels
  levels_bound source within order valid =
      let low = reach_bound source within (update_of_levels (slice_index g.ids source)) (λ weight. 1) 1 (omega arith) (λ k e e_within at. omega arith) (λ id. refl) (levels_relax g is (slice_index g.ids source)) (λ old new. refl) order valid in
      let changes : (size g - 1) * 1 + 1 ≡ size g = omega arith in
      subst (λ n. updates_since_restart order ≤ steps_at_most g n) changes low

  pub paths_bound : (source : ℕ) → source < size g → (order : List Entry) → IsValidOrder g (update_of_paths (slice_index g.ids source)) order → updates_since_restart order ≤ step_bound g Paths
  paths_bound source within order valid =
      reach_bound source within (update_of_paths (slice_index g.ids source)) (λ weight. weight) (greatest_weight g.edges) (weights_few g is) (λ k e e_within at. weight-le-greatest g.edges k e e_within at) (λ id. refl) (paths_relax g is (slice_index g.ids source)) (λ old new. refl) order valid

  -- the rank of a label is how many identifiers are below it
  pub components_bound : (order : List Entry) → IsValidOrder g update_of_components order → updates_since_restart order ≤ step_bound g Components
  components_bound order valid =
      bounded g is update_of_components (Labels g is) (labels_goes g is)
      (λ label. count_below (λ u. nat_lt (slice_index g.ids u) label) (size g)) (size g) (λ label. count_below-le (λ u. nat_lt (slice_index g.ids u) label) (size g))
      (λ s v within good.
      let old = s.vertex v in
      let new = new_number g update_of_components s v in ⊎_elim
      (λ (same : old ≡ new). inl (rw (eq-eqb old new same) refl, let equal = ap (λ label. count_below (λ u. nat_lt (slice_index g.ids u) label) (size g)) same in omega arith))
      (λ (differ : old ≡ new → ⊥).
      let falls = new_number-own takes_all offer_same g is update_of_components (components_relax g is) s v in
      let joined = new_joined g is s v within good in
      let its = joined.3 in
      inr (count_below-less (λ u. nat_lt (slice_index g.ids u) new) (λ u. nat_lt (slice_index g.ids u) old) joined.0 (size g) joined.1
      (λ u u_within below. let b = ltb-true (slice_index g.ids u) new below in lt-ltb (slice_index g.ids u) old (omega arith))
      (le-ltb (slice_index g.ids joined.0) new (omega arith))
      (lt-ltb (slice_index g.ids joined.0) old (omega arith))))
      (cases_eq old new))
      order valid (labels_start g is)

  pub colours_bound : (order : List Entry) → IsValidOrder g update_of_colours order → updates_since_restart order ≤ step_bound g Colours
  colours_bound order valid =
      let low = bounded g is update_of_colours (λ s. Unit {0}) (λ s v within good. tt) (λ x. 0) 0 (λ x. omega arith) (λ s v within good. inl (refl, omega arith)) order valid tt in
      omega arith

  -- a vertex has fewer neighbours than there are vertices
  halves_fewer : g.directed ≡ false → (v : ℕ) → v < size g → length (halves_of g v) < size g
  halves_fewer undirected v within =
      let all = ties-all (halves_of g v) in
      let low = halves_low g is undirected (λ u. true) v in
      let none : list_any (joins v v) g.edges ≡ false =
      list_any_none (joins v v) g.edges
      (λ i d i_within. false_from_ne_true (joins v v (slice_index_or g.edges i d)) (λ joined.
      let e = slice_index_or g.edges i d in
      edges_apart g is i d i_within (⊎_elim
      (λ (w : (e.from ≡ v) × (e.to ≡ v)). w.0 ∙ sym w.1)
      (λ (w : (false ≡ false) × (e.from ≡ v) × (e.to ≡ v)). w.1 ∙ sym w.2)
      (joined-leads v v e joined)))) in
      let less = count_below-less (λ u. list_any (joins v u) g.edges && true) (λ u. true) v (size g) within (λ u u_within joined. refl) (and_left (list_any (joins v v) g.edges) true none) refl in
      let few = count_below-le (λ u. true) (size g) in
      omega arith

  pub cores_bound : g.directed ≡ false → (order : List Entry) → IsValidOrder g update_of_cores order → updates_since_restart order ≤ step_bound g Cores
  cores_bound undirected order valid =
      bounded g is update_of_cores (λ s. Unit {0}) (λ s v within good. tt) (λ x. min x (size g)) (size g) (λ x. omega arith)
      (λ s v within good.
      let old = s.vertex v in
      let new = new_number g update_of_cores s v in ⊎_elim
      (λ (same : old ≡ new). inl (rw (eq-eqb old new same) refl, omega arith))
      (λ (differ : old ≡ new → ⊥).
      let falls = new_core-own g is s v in
      let low = new_core-degree g is s v in
      let few = halves_fewer undirected v within in
      inr (omega arith))
      (cases_eq old new))
      order valid tt
