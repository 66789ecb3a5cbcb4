-- The programs for levels and for paths reach as far as walks do.
use Rattle.std.proofs.Common.{◌≡◌, ℕ, ◌+◌, ◌^◌, ◌<◌, ◌≤◌, nat_lt, Bool, true, false, List, [], ◌∷◌, length, All, slice_index, slice_index_or, sum_by, refl, sym, ◌∙◌, subst, ap, inl, inr, ⊎_elim, zero, suc, arith}
use Rattle.std.specs.List.{AllByRecursion}
use Rattle.std.proofs.lemmas.Bool.{and_parts}
use Rattle.std.proofs.lemmas.List.Sums.{sum_by-cons}
use Rattle.std.proofs.lemmas.List.Elements.{All-head, All-tail}
use Rattle.gl_base.specs.declared.limits.TheConstants.{INF}
use Rattle.gl_base.specs.declared.entries.Entry.{Entry}
use Rattle.graph_core.specs.DataGraph.{DataEdge, DataGraph, size, IsEdge, IsDataGraph}
use Rattle.graph_core.specs.Walks.{IsLeast, NoWalk, IsLeastOrInf}
use Rattle.graph_core.specs.Levels.{IsLevelOrInf, IsDistanceOrInf}
use Rattle.graph_core.specs.Halves.{halves_of}
use Rattle.graph_core.proofs.HalvesLaws.{each-weaker}
use Rattle.update_api.specs.declared.woken.Woken.TheVariants.{Ahead}
use Rattle.update_api.specs.Updates.{Update, where_changed, update_of_levels, update_of_paths}
use Rattle.seq_run.specs.States.{GraphState, new_number, wakes}
use Rattle.seq_run.specs.Orders.{replay, IsValidOrder, IsFinished}
use Rattle.seq_run.specs.StepBound.{greatest_weight}
use Rattle.seq_run.proofs.Waking.{unseen_behind}
use Rattle.seq_run.proofs.Relaxing.{Relaxes}
use Rattle.seq_run.proofs.Reach.{takes_reached, cost_of, reach}

IsLeastOrInf-same : (g : DataGraph) (cost other : List DataEdge → ℕ) → ((path : List DataEdge) → cost path ≡ other path) → (a b x : ℕ) → IsLeastOrInf g cost a b x → IsLeastOrInf g other a b x
IsLeastOrInf-same g cost other same a b x is = ⊎_elim
    (λ (w : (x < INF) × IsLeast g cost a b x). inl (
      w.0,
      record {
        reached = (w.1.reached.0, w.1.reached.1, sym (same w.1.reached.0) ∙ w.1.reached.2);
        least = λ path walk. subst (λ y. x ≤ y) (same path) (w.1.least path walk);
      },
    ))
    (λ (w : (x ≡ INF) × NoWalk g a b). inr w)
    is

cost_of-length : (path : List DataEdge) → cost_of (λ weight. 1) path ≡ length path
cost_of-length [] = refl
cost_of-length (e ∷ path) = let rest = cost_of-length path in omega arith

cost_of-sum : (path : List DataEdge) → cost_of (λ weight. weight) path ≡ sum_by (λ e. e.weight) path
cost_of-sum [] = refl
cost_of-sum (e ∷ path) = ap (λ n. e.weight + n) (cost_of-sum path) ∙ sym (sum_by-cons (λ (f : DataEdge). f.weight) e path)

pub weight-le-greatest : (edges : List DataEdge) (k : ℕ) (e : DataEdge) → k < length edges → slice_index_or edges k e ≡ e → e.weight ≤ greatest_weight edges
weight-le-greatest [] k e within at = absurd (omega arith)
weight-le-greatest (f ∷ edges) zero e within at = let same = ap (λ (x : DataEdge). x.weight) at in omega arith
weight-le-greatest (f ∷ edges) (suc k) e within at = let rest = weight-le-greatest edges k e (omega arith) at in omega arith

greatest_weight-below : (n : ℕ) (directed : Bool) (edges : List DataEdge) → All (IsEdge n directed) edges → greatest_weight edges < 2 ^ 32
greatest_weight-below n directed [] all = omega arith
greatest_weight-below n directed (e ∷ edges) all =
    let first = (All-head (IsEdge n directed) e edges all).weight in
    let rest = greatest_weight-below n directed edges (All-tail (IsEdge n directed) e edges all) in omega arith

module _ (g : DataGraph) (is : IsDataGraph g) where
  relaxes_ahead : (p : Update) → ((old new : ℕ) → p.woken old new ≡ where_changed Ahead old new) → (s : GraphState) (v w : ℕ) → wakes g p s v w ≡ false → AllByRecursion (λ h. h.other ≡ v → (x : ℕ) → takes_reached h.into x ≡ true → new_number g p s v ≡ s.vertex v) (halves_of g w)
  relaxes_ahead p says s v w asleep =
      each-weaker (λ h. h.other ≡ v → h.into ≡ true → new_number g p s v ≡ s.vertex v) (λ h. h.other ≡ v → (x : ℕ) → takes_reached h.into x ≡ true → new_number g p s v ≡ s.vertex v)
      (λ h unseen other x taken. unseen other (and_parts h.into (nat_lt x INF) taken).0)
      (halves_of g w) (unseen_behind g is p says s v w asleep)

  pub levels_relax : (source : ℕ) → Relaxes takes_reached (λ x w. x + 1) g (update_of_levels source)
  levels_relax source = record { number = λ own nears. refl; unseen = relaxes_ahead (update_of_levels source) (λ old new. refl) }

  pub paths_relax : (source : ℕ) → Relaxes takes_reached (λ x w. x + w) g (update_of_paths source)
  paths_relax source = record { number = λ own nears. refl; unseen = relaxes_ahead (update_of_paths source) (λ old new. refl) }

  pub weights_few : greatest_weight g.edges < 2 ^ 32
  weights_few = greatest_weight-below (size g) g.directed g.edges is.edges

  pub levels_at_rest : (source : ℕ) → source < size g → (order : List Entry) → IsValidOrder g (update_of_levels (slice_index g.ids source)) order → IsFinished g (update_of_levels (slice_index g.ids source)) order → (v : ℕ) → v < size g → IsLevelOrInf g source v ((replay g (update_of_levels (slice_index g.ids source)) order).vertex v)
  levels_at_rest source within order valid finished v v_within =
      let p = update_of_levels (slice_index g.ids source) in
      IsLeastOrInf-same g (cost_of (λ weight. 1)) length cost_of-length source v ((replay g p order).vertex v)
      (reach g is source within p (λ weight. 1) 1 (omega arith) (λ k e e_within at. omega arith) (λ id. refl) (levels_relax (slice_index g.ids source)) order valid finished v v_within)

  pub paths_at_rest : (source : ℕ) → source < size g → (order : List Entry) → IsValidOrder g (update_of_paths (slice_index g.ids source)) order → IsFinished g (update_of_paths (slice_index g.ids source)) order → (v : ℕ) → v < size g → IsDistanceOrInf g source v ((replay g (update_of_paths (slice_index g.ids source)) order).vertex v)
  paths_at_rest source within order valid finished v v_within =
      let p = update_of_paths (slice_index g.ids source) in
      IsLeastOrInf-same g (cost_of (λ weight. weight)) (λ path. sum_by (λ e. e.weight) path) cost_of-sum source v ((replay g p order).vertex v)
      (reach g is source within p (λ weight. weight) (greatest_weight g.edges) weights_few (λ k e e_within at. weight-le-greatest g.edges k e e_within at) (λ id. refl) (paths_relax (slice_index g.ids source)) order valid finished v v_within)
