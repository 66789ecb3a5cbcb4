-- Once every vertex was updated, an edge is marked exactly where it is tight.
use Rattle.std.proofs.Common.{◌≡◌, ◌≢◌, ◌⊎◌, ℕ, ◌+◌, ◌<◌, ◌==◌, ◌&&◌, ◌||◌, not, nat_lt, if◌then◌else◌, Decides, Bool, true, false, List, [], ◌∷◌, length, slice_index_or, refl, sym, ◌∙◌, subst, ap, ap₂, inl, inr, ⊎_elim, true≢false, arith, eq-eqb, ne_eqb, zero-add}
use Rattle.std.specs.List.{AllByRecursion}
use Rattle.std.proofs.lemmas.Bool.{cases_Bool, cases_eq, not-true}
use Rattle.std.proofs.lemmas.List.{get_or_default}
use Rattle.std.proofs.lemmas.Bool.Decides.{Decides-at, Decides-like, Decides-and, Decides-or, Decides-ltb, Decides-eqb}
use Rattle.gl_base.specs.declared.limits.TheConstants.{INF}
use Rattle.gl_base.specs.declared.entries.Entry.{Entry}
use Rattle.graph_core.specs.DataGraph.{DataEdge, DataGraph, IsDataGraph}
use Rattle.graph_core.specs.Halves.{DataHalf, halves_of}
use Rattle.graph_core.proofs.HalvesLaws.{each-weaker, half_out, half_into, IsEndAt, IsHalfAt, halves_are, edge_is, half_other, has_half_out, has_half_into}
use Rattle.update_api.specs.Near.{Near}
use Rattle.update_api.specs.Updates.{Update, is_tight, update_of_paths}
use Rattle.seq_run.specs.States.{GraphState, near_of, with_number, with_marks, new_number, after_update}
use Rattle.seq_run.specs.Orders.{replay, IsValidOrder, IsFinished}
use Rattle.seq_run.specs.TightEdges.{IsTight, IsMark}
use Rattle.seq_run.proofs.Waking.{with_number-same, with_number-other}
use Rattle.seq_run.proofs.AtRest.{at_rest}

-- what holds of the mark of each of these halves that is half of e, and of the old number where none is, holds of the new number
with_marks-holds : (P : ℕ → Type 0) (p : Update) (s : GraphState) (own e : ℕ) (halves : List DataHalf) → AllByRecursion (λ h. e ≡ h.edge → P (p.mark own (near_of s h))) halves → (AllByRecursion (λ h. e ≢ h.edge) halves → P (s.edge e)) → P (with_marks p s own halves e)
with_marks-holds P p s own e [] each none = none tt
with_marks-holds P p s own e (h ∷ halves) each none = ⊎_elim
    (λ (same : e ≡ h.edge). rw (eq-eqb e h.edge same) (each.0 same))
    (λ (other : e ≡ h.edge → ⊥). rw (ne_eqb e h.edge other) (with_marks-holds P p s own e halves each.1 (λ rest. none (other, rest))))
    (cases_eq e h.edge)

-- one step without slack
Decides-step : (a b weight : ℕ) → Decides (nat_lt a INF && a + weight == b) ((a < INF) × (a + weight ≡ b))
Decides-step a b weight = Decides-and (nat_lt a INF) (a + weight == b) (Decides-ltb a INF) (Decides-eqb (a + weight) b)

Decides-back : (directed : Bool) (a b weight : ℕ) → Decides (not directed && (nat_lt a INF && a + weight == b)) ((directed ≡ false) × (a < INF) × (a + weight ≡ b))
Decides-back directed a b weight =
    Decides-like (not directed && (nat_lt a INF && a + weight == b))
    (λ (w : (directed ≡ false) × ((a < INF) × (a + weight ≡ b))). (w.0, w.1.0, w.1.1))
    (λ (w : (directed ≡ false) × (a < INF) × (a + weight ≡ b)). (w.0, (w.1, w.2)))
    (Decides-and (not directed) (nat_lt a INF && a + weight == b) (λ is. not-true directed is, λ is. ap not is) (Decides-step a b weight))

-- what the edge shows at its `from`, and at its `to`
abbrev near_out : Bool → (ℕ → ℕ) → ℕ → DataEdge → Near
near_out directed x mark e = record { number = x e.to; mark = mark; weight = e.weight; out = true; into = not directed }

abbrev near_into : Bool → (ℕ → ℕ) → ℕ → DataEdge → Near
near_into directed x mark e = record { number = x e.from; mark = mark; weight = e.weight; out = not directed; into = true }

Decides-tight_out : (directed : Bool) (x : ℕ → ℕ) (mark : ℕ) (e : DataEdge) → Decides (is_tight (x e.from) (near_out directed x mark e)) (IsTight directed x e)
Decides-tight_out directed x mark e =
    Decides-or (nat_lt (x e.from) INF && x e.from + e.weight == x e.to) (not directed && (nat_lt (x e.to) INF && x e.to + e.weight == x e.from))
    (Decides-step (x e.from) (x e.to) e.weight) (Decides-back directed (x e.to) (x e.from) e.weight)

Decides-tight_into : (directed : Bool) (x : ℕ → ℕ) (mark : ℕ) (e : DataEdge) → Decides (is_tight (x e.to) (near_into directed x mark e)) (IsTight directed x e)
Decides-tight_into directed x mark e =
    let back = not directed && (nat_lt (x e.to) INF && x e.to + e.weight == x e.from) in
    let on = nat_lt (x e.from) INF && x e.from + e.weight == x e.to in
    Decides-like (back || on)
    (λ (w : ((directed ≡ false) × (x e.to < INF) × (x e.to + e.weight ≡ x e.from)) ⊎ ((x e.from < INF) × (x e.from + e.weight ≡ x e.to))).
    let turned : IsTight directed x e = ⊎_elim (λ back. inr back) (λ on. inl on) w in turned)
    (λ (w : IsTight directed x e).
    let turned : ((directed ≡ false) × (x e.to < INF) × (x e.to + e.weight ≡ x e.from)) ⊎ ((x e.from < INF) × (x e.from + e.weight ≡ x e.to)) = ⊎_elim (λ on. inr on) (λ back. inl back) w in turned)
    (Decides-or back on (Decides-back directed (x e.to) (x e.from) e.weight) (Decides-step (x e.from) (x e.to) e.weight))

mark_decides : (b : Bool) (P : Type 0) → Decides b P → IsMark (if b then 1 else 0) P
mark_decides b P decides = ⊎_elim
    (λ (is : b ≡ true). rw is (inl (refl, decides.0 is)))
    (λ (is_not : b ≡ false). rw is_not (inr (refl, λ holds. true≢false (sym (decides.1 holds) ∙ is_not))))
    (cases_Bool b)

-- the test at a half of the edge decides whether the edge is tight
Decides-tight : (directed : Bool) (x : ℕ → ℕ) (s : GraphState) (own v : ℕ) (e : DataEdge) (h : DataHalf) → IsEndAt directed v e h → own ≡ x v → s.vertex h.other ≡ x h.other → Decides (is_tight own (near_of s h)) (IsTight directed x e)
Decides-tight directed x s own v e h end mine its = ⊎_elim
    (λ (w : (e.from ≡ v) × (h ≡ half_out directed h.edge e)).
    let other : h.other ≡ e.to = ap (λ (k : DataHalf). k.other) w.1 in
    let weight : h.weight ≡ e.weight = ap (λ (k : DataHalf). k.weight) w.1 in
    let out : h.out ≡ true = ap (λ (k : DataHalf). k.out) w.1 in
    let into : h.into ≡ not directed = ap (λ (k : DataHalf). k.into) w.1 in
    let number : s.vertex h.other ≡ x e.to = its ∙ ap x other in
    let own_is : own ≡ x e.from = mine ∙ ap x (sym w.0) in
    let near : near_of s h ≡ near_out directed x (s.edge h.edge) e = cc in
    Decides-at (is_tight own (near_of s h)) (is_tight (x e.from) (near_out directed x (s.edge h.edge) e)) (ap₂ is_tight own_is near) (Decides-tight_out directed x (s.edge h.edge) e))
    (λ (w : (e.to ≡ v) × (h ≡ half_into directed h.edge e)).
    let other : h.other ≡ e.from = ap (λ (k : DataHalf). k.other) w.1 in
    let weight : h.weight ≡ e.weight = ap (λ (k : DataHalf). k.weight) w.1 in
    let out : h.out ≡ not directed = ap (λ (k : DataHalf). k.out) w.1 in
    let into : h.into ≡ true = ap (λ (k : DataHalf). k.into) w.1 in
    let number : s.vertex h.other ≡ x e.from = its ∙ ap x other in
    let own_is : own ≡ x e.to = mine ∙ ap x (sym w.0) in
    let near : near_of s h ≡ near_into directed x (s.edge h.edge) e = cc in
    Decides-at (is_tight own (near_of s h)) (is_tight (x e.to) (near_into directed x (s.edge h.edge) e)) (ap₂ is_tight own_is near) (Decides-tight_into directed x (s.edge h.edge) e))
    end

same_element : (edges : List DataEdge) (k : ℕ) (e f : DataEdge) → k < length edges → slice_index_or edges k e ≡ e → slice_index_or edges k f ≡ f → e ≡ f
same_element edges k e f within at_e at_f = sym at_e ∙ get_or_default edges k e f within ∙ at_f

IsTight-same : (directed : Bool) (x y : ℕ → ℕ) (e : DataEdge) → x e.from ≡ y e.from → x e.to ≡ y e.to → IsTight directed x e → IsTight directed y e
IsTight-same directed x y e from to tight = ⊎_elim
    (λ (w : (x e.from < INF) × (x e.from + e.weight ≡ x e.to)). inl (omega arith, omega arith))
    (λ (w : (directed ≡ false) × (x e.to < INF) × (x e.to + e.weight ≡ x e.from)). inr (w.0, omega arith, omega arith))
    tight

IsMark-same : (mark : ℕ) (P Q : Type 0) → (P → Q) → (Q → P) → IsMark mark P → IsMark mark Q
IsMark-same mark P Q on back is = ⊎_elim
    (λ (w : (mark ≡ 1) × P). inl (w.0, on w.1))
    (λ (w : (mark ≡ 0) × (¬ P)). inr (w.0, λ q. w.1 (back q)))
    is

module _ (g : DataGraph) (is : IsDataGraph g) (source : ℕ) where
  abbrev p : Update
  p = update_of_paths source

  -- edge k has the mark of the current numbers
  abbrev IsMarked : GraphState → ℕ → DataEdge → Type 0
  IsMarked s k e = IsMark (s.edge k) (IsTight g.directed s.vertex e)

  fresh : (s : GraphState) (v k : ℕ) (e : DataEdge) → k < length g.edges → slice_index_or g.edges k e ≡ e → (e.from ≡ v) ⊎ (e.to ≡ v) → IsMarked (after_update g p s v) k e
  fresh s v k e within at end =
      let new = new_number g p s v in
      let x = with_number s.vertex v new in
      with_marks-holds (λ mark. IsMark mark (IsTight g.directed x e)) p s new k (halves_of g v)
      (each-weaker (IsHalfAt g is v) (λ h. k ≡ h.edge → IsMark (if is_tight new (near_of s h) then 1 else 0) (IsTight g.directed x e))
      (λ h half same.
      let place : half.place ≡ k = sym (same ∙ half.number ∙ zero-add half.place) in
      let its : half.edge ≡ e = same_element g.edges k half.edge e within (subst (λ i. slice_index_or g.edges i half.edge ≡ half.edge) place half.at) at in
      let ends : IsEndAt g.directed v e h = subst (λ d. IsEndAt g.directed v d h) its half.end in
      mark_decides (is_tight new (near_of s h)) (IsTight g.directed x e)
      (Decides-tight g.directed x s new v e h ends (sym (with_number-same s.vertex v new)) (sym (with_number-other s.vertex v new h.other (half_other g is v h half).1))))
      (halves_of g v) (halves_are g is v))
      (λ none. absurd (⊎_elim
      (λ (from : e.from ≡ v). has_half_out g is k e (λ h. k ≢ h.edge) within at (subst (λ u. AllByRecursion (λ h. k ≢ h.edge) (halves_of g u)) (sym from) none) refl)
      (λ (to : e.to ≡ v). has_half_into g is k e (λ h. k ≢ h.edge) within at (subst (λ u. AllByRecursion (λ h. k ≢ h.edge) (halves_of g u)) (sym to) none) refl)
      end))

  kept : (s : GraphState) (v k : ℕ) (e : DataEdge) → k < length g.edges → slice_index_or g.edges k e ≡ e → e.from ≢ v → e.to ≢ v → IsMarked s k e → IsMarked (after_update g p s v) k e
  kept s v k e within at not_from not_to marked =
      let new = new_number g p s v in
      let x = with_number s.vertex v new in
      let same : with_marks p s new (halves_of g v) k ≡ s.edge k =
      with_marks-holds (λ mark. mark ≡ s.edge k) p s new k (halves_of g v)
      (each-weaker (IsHalfAt g is v) (λ h. k ≡ h.edge → (if is_tight new (near_of s h) then 1 else 0) ≡ s.edge k)
      (λ h half same.
      let place : half.place ≡ k = sym (same ∙ half.number ∙ zero-add half.place) in
      let its : half.edge ≡ e = same_element g.edges k half.edge e within (subst (λ i. slice_index_or g.edges i half.edge ≡ half.edge) place half.at) at in
      absurd (⊎_elim
      (λ (w : (half.edge.from ≡ v) × (h ≡ half_out g.directed h.edge half.edge)). not_from (sym (ap (λ (d : DataEdge). d.from) its) ∙ w.0))
      (λ (w : (half.edge.to ≡ v) × (h ≡ half_into g.directed h.edge half.edge)). not_to (sym (ap (λ (d : DataEdge). d.to) its) ∙ w.0))
      half.end))
      (halves_of g v) (halves_are g is v))
      (λ none. refl) in
      let from = with_number-other s.vertex v new e.from not_from in
      let to = with_number-other s.vertex v new e.to not_to in
      rw same (IsMark-same (s.edge k) (IsTight g.directed s.vertex e) (IsTight g.directed x e)
      (IsTight-same g.directed s.vertex x e (sym from) (sym to)) (IsTight-same g.directed x s.vertex e from to) marked)

  -- each edge at w is marked
  abbrev IsSettled : ℕ → GraphState → Type 0
  IsSettled w s = (k : ℕ) (e : DataEdge) → k < length g.edges → slice_index_or g.edges k e ≡ e → (e.from ≡ w) ⊎ (e.to ≡ w) → IsMarked s k e

  stays : (s : GraphState) (v w : ℕ) → IsSettled w s → IsSettled w (after_update g p s v)
  stays s v w settled k e within at end = ⊎_elim
      (λ (from : e.from ≡ v). fresh s v k e within at (inl from))
      (λ (not_from : e.from ≡ v → ⊥). ⊎_elim
      (λ (to : e.to ≡ v). fresh s v k e within at (inr to))
      (λ (not_to : e.to ≡ v → ⊥). kept s v k e within at not_from not_to (settled k e within at end))
      (cases_eq e.to v))
      (cases_eq e.from v)

  pub marks_at_rest : (order : List Entry) → IsValidOrder g p order → IsFinished g p order → (k : ℕ) (e : DataEdge) → k < length g.edges → slice_index_or g.edges k e ≡ e → IsMarked (replay g p order) k e
  marks_at_rest order valid finished k e within at =
      at_rest g is p (λ s. Unit {0}) IsSettled (λ s v v_within good. tt) (λ s v v_within good. fresh s v)
      (λ s v w v_within w_within good other asleep settled. stays s v w settled)
      order valid finished tt e.from (edge_is g is k e within at).from k e within at (inl refl)
