-- The edges at a vertex, by their numbers, and what an update writes there.
use Rattle.std.proofs.Common.{◌≡◌, ℕ, ◌<◌, true, false, ◌&&◌, ◌≢◌, ◌⊎◌, List, [], ◌∷◌, map, length, if◌then◌else◌, ◌==◌, slice_index_or, sym, refl, ap, ◌∙◌, subst, ap₂, inl, inr, ⊎_elim, true≢false, zero-add, eq-eqb, ne_eqb, eqb-true}
use Rattle.std.specs.List.{AllByRecursion}
use Rattle.std.proofs.lemmas.List.{get_or_default}
use Rattle.std.proofs.lemmas.Bool.{cases_eq, and_parts, or_cases, and_from, or_left, or_right, cond-false, false_from_ne_true}
use Rattle.graph_core.specs.Colourings.{joins}
use Rattle.graph_core.specs.DataGraph.{DataEdge, DataGraph, size, IsEdge}
use Rattle.graph_core.specs.Halves.{DataHalf, halves_of}
use Rattle.graph_core.proofs.HalvesLaws.{each-weaker, some_passes, half_out, half_into, IsHalfAt, halves_are}
use Rattle.update_api.specs.Updates.{Update}
use Rattle.update_api.specs.declared.woken.Woken.TheVariants.{Nobody, Ahead, Around}
use Rattle.update_api.specs.declared.woken.Woken.{Woken}
use Rattle.seq_run.specs.States.{GraphState, near_of, new_number, with_marks, after_update, is_woken, wakes}
use Rattle.cluster_laws.specs.cluster_core.Effects.{is_shared}
use Rattle.cluster_laws.specs.cluster_core.Settings.{Setting, IsSetting, is_near, nth_edge}
use Rattle.cluster_laws.proofs.cluster_numbers.Passing.{any_at}

-- the edge joins v with u, whichever way
abbrev pub IsBetween : DataEdge → ℕ → ℕ → Type 0
IsBetween e v u = ((e.from ≡ v) × (e.to ≡ u)) ⊎ ((e.to ≡ v) × (e.from ≡ u))

pub joins_between : (e : DataEdge) (v u : ℕ) → IsBetween e v u → joins v u e ≡ true
joins_between e v u between = ⊎_elim
    (λ (w : (e.from ≡ v) × (e.to ≡ u)). or_left (e.from == v && e.to == u) (e.from == u && e.to == v) (and_from (e.from == v) (e.to == u) (eq-eqb e.from v w.0) (eq-eqb e.to u w.1)))
    (λ (w : (e.to ≡ v) × (e.from ≡ u)). or_right (e.from == v && e.to == u) (e.from == u && e.to == v) (and_from (e.from == u) (e.to == v) (eq-eqb e.from u w.1) (eq-eqb e.to v w.0)))
    between

pub between_joined : (e : DataEdge) (v u : ℕ) → joins v u e ≡ true → IsBetween e v u
between_joined e v u joined = ⊎_elim
    (λ (w : (e.from == v && e.to == u) ≡ true). let both = and_parts (e.from == v) (e.to == u) w in inl (eqb-true e.from v both.0, eqb-true e.to u both.1))
    (λ (w : (e.from == u && e.to == v) ≡ true). let both = and_parts (e.from == u) (e.to == v) w in inr (eqb-true e.to v both.1, eqb-true e.from u both.0))
    (or_cases (e.from == v && e.to == u) (e.from == u && e.to == v) joined)

-- whether v is an end of the edge
pub end_cases : (e : DataEdge) (v : ℕ) → ((u : ℕ) × IsBetween e v u) ⊎ ((e.from ≢ v) × (e.to ≢ v))
end_cases e v = ⊎_elim
    (λ (from : e.from ≡ v). inl (e.to, inl (from, refl)))
    (λ (not_from : e.from ≡ v → ⊥). ⊎_elim
    (λ (to : e.to ≡ v). inl (e.from, inr (to, refl)))
    (λ (not_to : e.to ≡ v → ⊥). inr (not_from, not_to))
    (cases_eq e.to v))
    (cases_eq e.from v)

-- an edge has two ends
pub between_same : (e : DataEdge) (x y c u : ℕ) → IsBetween e x y → IsBetween e c u → ((x ≡ c) × (y ≡ u)) ⊎ ((x ≡ u) × (y ≡ c))
between_same e x y c u one other = ⊎_elim
    (λ (w : (e.from ≡ x) × (e.to ≡ y)). ⊎_elim
    (λ (z : (e.from ≡ c) × (e.to ≡ u)). inl (sym w.0 ∙ z.0, sym w.1 ∙ z.1))
    (λ (z : (e.to ≡ c) × (e.from ≡ u)). inr (sym w.0 ∙ z.1, sym w.1 ∙ z.0))
    other)
    (λ (w : (e.to ≡ x) × (e.from ≡ y)). ⊎_elim
    (λ (z : (e.from ≡ c) × (e.to ≡ u)). inr (sym w.0 ∙ z.1, sym w.1 ∙ z.0))
    (λ (z : (e.to ≡ c) × (e.from ≡ u)). inl (sym w.0 ∙ z.0, sym w.1 ∙ z.1))
    other)
    one

with_marks-none : (p : Update) (s : GraphState) (own k : ℕ) (halves : List DataHalf) → AllByRecursion (λ h. h.edge ≢ k) halves → with_marks p s own halves k ≡ s.edge k
with_marks-none p s own k [] none = refl
with_marks-none p s own k (h ∷ halves) none =
    cond-false (k == h.edge) (p.mark own (near_of s h)) (with_marks p s own halves k) (ne_eqb k h.edge (λ same. none.0 (sym same))) ∙ with_marks-none p s own k halves none.1

module _ (st : Setting) (is : IsSetting st) where
  -- the edge with a number, by whichever default it was read
  pub edge_read : (k : ℕ) (e : DataEdge) → k < length st.graph.edges → slice_index_or st.graph.edges k e ≡ e → nth_edge st k ≡ e
  edge_read k e within at = get_or_default st.graph.edges k (record { from = 0; to = 0; weight = 0 }) e within ∙ at

  pub edge_fits : (k : ℕ) → k < length st.graph.edges → IsEdge (size st.graph) st.graph.directed (nth_edge st k)
  edge_fits k within = is.graph.edges k (record { from = 0; to = 0; weight = 0 }) within

  -- the two ends of an edge are near
  pub ends_near : (k v u : ℕ) → k < length st.graph.edges → IsBetween (nth_edge st k) v u → is_near st v u ≡ true
  ends_near k v u within between =
      any_at (joins v u) st.graph.edges k (record { from = 0; to = 0; weight = 0 }) within (joins_between (nth_edge st k) v u between)

  pub ends_apart : (k v u : ℕ) → k < length st.graph.edges → IsBetween (nth_edge st k) v u → v ≢ u
  ends_apart k v u within between same = ⊎_elim
      (λ (w : ((nth_edge st k).from ≡ v) × ((nth_edge st k).to ≡ u)). (edge_fits k within).apart (w.0 ∙ same ∙ sym w.1))
      (λ (w : ((nth_edge st k).to ≡ v) × ((nth_edge st k).from ≡ u)). (edge_fits k within).apart (w.1 ∙ sym same ∙ sym w.0))
      between

  pub ends_within : (k v u : ℕ) → k < length st.graph.edges → IsBetween (nth_edge st k) v u → (v < size st.graph) × (u < size st.graph)
  ends_within k v u within between = ⊎_elim
      (λ (w : ((nth_edge st k).from ≡ v) × ((nth_edge st k).to ≡ u)).
      (subst (λ x. x < size st.graph) w.0 (edge_fits k within).from, subst (λ x. x < size st.graph) w.1 (edge_fits k within).to))
      (λ (w : ((nth_edge st k).to ≡ v) × ((nth_edge st k).from ≡ u)).
      (subst (λ x. x < size st.graph) w.0 (edge_fits k within).to, subst (λ x. x < size st.graph) w.1 (edge_fits k within).from))
      between

  -- the edge of a half at v leads between v and the half's other end
  pub half_between : (v : ℕ) (h : DataHalf) → IsHalfAt st.graph is.graph v h → (h.edge < length st.graph.edges) × IsBetween (nth_edge st h.edge) v h.other
  half_between v h half =
      let number : h.edge ≡ half.place = half.number ∙ zero-add half.place in
      let its : nth_edge st h.edge ≡ half.edge = ap (nth_edge st) number ∙ edge_read half.place half.edge half.within half.at in
      let between : IsBetween half.edge v h.other = ⊎_elim
      (λ (w : (half.edge.from ≡ v) × (h ≡ half_out st.graph.directed h.edge half.edge)). inl (w.0, sym (ap (λ (x : DataHalf). x.other) w.1)))
      (λ (w : (half.edge.to ≡ v) × (h ≡ half_into st.graph.directed h.edge half.edge)). inr (w.0, sym (ap (λ (x : DataHalf). x.other) w.1)))
      half.end in
      (subst (λ k. k < length st.graph.edges) (sym number) half.within, subst (λ e. IsBetween e v h.other) (sym its) between)

  -- an edge of which v is no end is none of its halves
  pub no_half : (v k : ℕ) → ((nth_edge st k).from ≢ v) × ((nth_edge st k).to ≢ v) → AllByRecursion (λ h. h.edge ≢ k) (halves_of st.graph v)
  no_half v k away =
      each-weaker (IsHalfAt st.graph is.graph v) (λ h. h.edge ≢ k)
      (λ h half same. ⊎_elim
      (λ (w : ((nth_edge st k).from ≡ v) × ((nth_edge st k).to ≡ h.other)). away.0 w.0)
      (λ (w : ((nth_edge st k).to ≡ v) × ((nth_edge st k).from ≡ h.other)). away.1 w.0)
      (subst (λ j. IsBetween (nth_edge st j) v h.other) same (half_between v h half).1))
      (halves_of st.graph v) (halves_are st.graph is.graph v)

  -- who is woken is near
  pub woken_near : (woken : Woken) (v u : ℕ) → is_woken woken (halves_of st.graph v) u ≡ true → is_near st v u ≡ true
  woken_near Nobody v u yes_woken = absurd (true≢false (sym yes_woken))
  woken_near Ahead v u yes_woken =
      let some = some_passes (IsHalfAt st.graph is.graph v) (λ h. h.out && h.other == u) (halves_of st.graph v) yes_woken (halves_are st.graph is.graph v) in
      let same = eqb-true some.0.other u (and_parts some.0.out (some.0.other == u) some.2).1 in
      let between = half_between v some.0 some.1 in
      subst (λ x. is_near st v x ≡ true) same (ends_near some.0.edge v some.0.other between.0 between.1)
  woken_near Around v u yes_woken =
      let some = some_passes (IsHalfAt st.graph is.graph v) (λ h. h.other == u) (halves_of st.graph v) yes_woken (halves_are st.graph is.graph v) in
      let same = eqb-true some.0.other u some.2 in
      let between = half_between v some.0 some.1 in
      subst (λ x. is_near st v x ≡ true) same (ends_near some.0.edge v some.0.other between.0 between.1)

  pub wakes_near : (s : GraphState) (v u : ℕ) → wakes st.graph st.program s v u ≡ true → is_near st v u ≡ true
  wakes_near s v u woken = woken_near (st.program.woken (s.vertex v) (new_number st.graph st.program s v)) v u woken

  -- an update writes no other edge
  pub edge_kept : (s : GraphState) (v k : ℕ) → ((nth_edge st k).from ≢ v) × ((nth_edge st k).to ≢ v) → (after_update st.graph st.program s v).edge k ≡ s.edge k
  edge_kept s v k away = with_marks-none st.program s (new_number st.graph st.program s v) k (halves_of st.graph v) (no_half v k away)

  pub shared_ends : (c q : ℕ) (e : DataEdge) → is_shared st c q e ≡ true → (u : ℕ) × IsBetween e c u × (st.owner u ≡ q)
  shared_ends c q e shared = ⊎_elim
      (λ (w : (e.from == c && st.owner e.to == q) ≡ true).
      let both = and_parts (e.from == c) (st.owner e.to == q) w in
      (e.to, inl (eqb-true e.from c both.0, refl), eqb-true (st.owner e.to) q both.1))
      (λ (w : (e.to == c && st.owner e.from == q) ≡ true).
      let both = and_parts (e.to == c) (st.owner e.from == q) w in
      (e.from, inr (eqb-true e.to c both.0, refl), eqb-true (st.owner e.from) q both.1))
      (or_cases (e.from == c && st.owner e.to == q) (e.to == c && st.owner e.from == q) shared)

  -- an edge that is not at v is shared with nobody
  pub not_shared : (v q : ℕ) (e : DataEdge) → (e.from ≢ v) × (e.to ≢ v) → is_shared st v q e ≡ false
  not_shared v q e away = false_from_ne_true (is_shared st v q e) (λ shared.
      let (u, between, owner) = shared_ends v q e shared in ⊎_elim
      (λ (w : (e.from ≡ v) × (e.to ≡ u)). away.0 w.0)
      (λ (w : (e.to ≡ v) × (e.from ≡ u)). away.1 w.0)
      between)

  pub shared_from : (c u : ℕ) (e : DataEdge) → IsBetween e c u → is_shared st c (st.owner u) e ≡ true
  shared_from c u e between = ⊎_elim
      (λ (w : (e.from ≡ c) × (e.to ≡ u)). or_left (e.from == c && st.owner e.to == st.owner u) (e.to == c && st.owner e.from == st.owner u)
      (and_from (e.from == c) (st.owner e.to == st.owner u) (eq-eqb e.from c w.0) (eq-eqb (st.owner e.to) (st.owner u) (ap st.owner w.1))))
      (λ (w : (e.to ≡ c) × (e.from ≡ u)). or_right (e.from == c && st.owner e.to == st.owner u) (e.to == c && st.owner e.from == st.owner u)
      (and_from (e.to == c) (st.owner e.from == st.owner u) (eq-eqb e.to c w.0) (eq-eqb (st.owner e.from) (st.owner u) (ap st.owner w.1))))
      between

-- ---- an update that lends the same near each half does the same

near_all-same : (one other : GraphState) (halves : List DataHalf) → AllByRecursion (λ h. near_of one h ≡ near_of other h) halves → map (near_of one) halves ≡ map (near_of other) halves
near_all-same one other [] same = refl
near_all-same one other (h ∷ halves) same = ap₂ (λ x xs. x ∷ xs) same.0 (near_all-same one other halves same.1)

pub new_number-same : (g : DataGraph) (p : Update) (one other : GraphState) (v : ℕ) → one.vertex v ≡ other.vertex v → AllByRecursion (λ h. near_of one h ≡ near_of other h) (halves_of g v) → new_number g p one v ≡ new_number g p other v
new_number-same g p one other v own near = ap₂ (λ x xs. p.number x xs) own (near_all-same one other (halves_of g v) near)

pub wakes-same : (g : DataGraph) (p : Update) (one other : GraphState) (v : ℕ) → one.vertex v ≡ other.vertex v → AllByRecursion (λ h. near_of one h ≡ near_of other h) (halves_of g v) → (u : ℕ) → wakes g p one v u ≡ wakes g p other v u
wakes-same g p one other v own near u =
    ap₂ (λ x y. is_woken (p.woken x y) (halves_of g v) u) own (new_number-same g p one other v own near)

marks-same : (p : Update) (one other : GraphState) (own k : ℕ) (halves : List DataHalf) → AllByRecursion (λ h. near_of one h ≡ near_of other h) halves → one.edge k ≡ other.edge k → with_marks p one own halves k ≡ with_marks p other own halves k
marks-same p one other own k [] near same = same
marks-same p one other own k (h ∷ halves) near same =
    ap₂ (λ x y. if k == h.edge then x else y) (ap (λ n. p.mark own n) near.0) (marks-same p one other own k halves near.1 same)

pub edge_after-same : (g : DataGraph) (p : Update) (one other : GraphState) (v k : ℕ) → one.vertex v ≡ other.vertex v → AllByRecursion (λ h. near_of one h ≡ near_of other h) (halves_of g v) → one.edge k ≡ other.edge k → (after_update g p one v).edge k ≡ (after_update g p other v).edge k
edge_after-same g p one other v k own near same =
    ap (λ x. with_marks p one x (halves_of g v) k) (new_number-same g p one other v own near) ∙ marks-same p one other (new_number g p other v) k (halves_of g v) near same
