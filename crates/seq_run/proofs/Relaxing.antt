-- Updates that take the least of the own number and of what the neighbours offer.
use Rattle.std.proofs.Common.{◌≡◌, ◌≢◌, ℕ, ◌<◌, ◌≤◌, min, Bool, true, false, List, [], ◌∷◌, map, filter, sym, ◌∙◌, subst, ⊎_elim, true≢false, arith, le_trans, le_of_eq, refl}
use Rattle.std.proofs.Math.Nat.{min-le_left, min-le_right, min-eq_left, min-eq_right}
use Rattle.std.specs.List.{AllByRecursion}
use Rattle.std.proofs.lemmas.Bool.{cases_Bool, cases_eq, cases_lt}
use Rattle.graph_core.specs.DataGraph.{DataGraph, IsDataGraph}
use Rattle.graph_core.specs.Halves.{DataHalf, halves_of}
use Rattle.graph_core.proofs.HalvesLaws.{each-weaker, each-both, IsHalfAt, halves_are, half_other}
use Rattle.update_api.specs.Near.{Near}
use Rattle.update_api.specs.Updates.{Update, least}
use Rattle.seq_run.specs.States.{GraphState, near_of, with_number, new_number, after_update, wakes}
use Rattle.seq_run.proofs.Waking.{with_number-same, with_number-other}

min_holds : (P : ℕ → Type 0) (a b : ℕ) → P a → P b → P (min a b)
min_holds P a b at_a at_b = ⊎_elim
    (λ (low : a < b). subst P (sym (min-eq_left (let l : a ≤ b = omega arith in l))) at_a)
    (λ (high : b ≤ a). subst P (sym (min-eq_right high)) at_b)
    (cases_lt a b)

-- the least of a number and of what is offered along the halves that are taken
module _ (takes : Bool → ℕ → Bool) (offer : ℕ → ℕ → ℕ) where
  abbrev pub least_offer : ℕ → List Near → ℕ
  least_offer own nears = least own (map (λ near. offer near.number near.weight) (filter (λ near. takes near.into near.number) nears))

  pub least_offer-own : (own : ℕ) (nears : List Near) → least_offer own nears ≤ own
  least_offer-own own [] = omega arith
  least_offer-own own (near ∷ nears) = ⊎_elim
      (λ (taken : takes near.into near.number ≡ true). rw taken (le_trans (min-le_right (offer near.number near.weight) (least_offer own nears)) (least_offer-own own nears)))
      (λ (left : takes near.into near.number ≡ false). rw left (least_offer-own own nears))
      (cases_Bool (takes near.into near.number))

  pub least_offer-each : (s : GraphState) (own : ℕ) (halves : List DataHalf) → AllByRecursion (λ h. takes h.into (s.vertex h.other) ≡ true → least_offer own (map (near_of s) halves) ≤ offer (s.vertex h.other) h.weight) halves
  least_offer-each s own [] = tt
  least_offer-each s own (h ∷ halves) =
      let first = offer (s.vertex h.other) h.weight in
      let rest = least_offer own (map (near_of s) halves) in
      let whole = least_offer own (map (near_of s) (h ∷ halves)) in ⊎_elim
      (λ (taken : takes h.into (s.vertex h.other) ≡ true).
      let same : whole ≡ min first rest = rw taken refl in (
        λ _. let low = min-le_left first rest in omega arith,
        each-weaker (λ k. takes k.into (s.vertex k.other) ≡ true → rest ≤ offer (s.vertex k.other) k.weight) (λ k. takes k.into (s.vertex k.other) ≡ true → whole ≤ offer (s.vertex k.other) k.weight)
            (λ k each is_taken. let low = each is_taken in omega arith) halves (least_offer-each s own halves),
      ))
      (λ (left : takes h.into (s.vertex h.other) ≡ false).
      let same : whole ≡ rest = rw left refl in (
        λ taken. absurd (true≢false (sym taken ∙ left)),
        each-weaker (λ k. takes k.into (s.vertex k.other) ≡ true → rest ≤ offer (s.vertex k.other) k.weight) (λ k. takes k.into (s.vertex k.other) ≡ true → whole ≤ offer (s.vertex k.other) k.weight)
            (λ k each is_taken. let low = each is_taken in omega arith) halves (least_offer-each s own halves),
      ))
      (cases_Bool (takes h.into (s.vertex h.other)))

  pub least_offer-holds : (P : ℕ → Type 0) (s : GraphState) (own : ℕ) (halves : List DataHalf) → P own → AllByRecursion (λ h. takes h.into (s.vertex h.other) ≡ true → P (offer (s.vertex h.other) h.weight)) halves → P (least_offer own (map (near_of s) halves))
  least_offer-holds P s own [] at_own each = at_own
  least_offer-holds P s own (h ∷ halves) at_own each =
      let rest = least_offer-holds P s own halves at_own each.1 in ⊎_elim
      (λ (taken : takes h.into (s.vertex h.other) ≡ true). rw taken (min_holds P (offer (s.vertex h.other) h.weight) (least_offer own (map (near_of s) halves)) (each.0 taken) rest))
      (λ (left : takes h.into (s.vertex h.other) ≡ false). rw left rest)
      (cases_Bool (takes h.into (s.vertex h.other)))

  -- the program's update takes the least offer, and whom it doesn't wake sees no new offer
  pub record Relaxes (g : DataGraph) (p : Update) : Type 0 where
    pub number : (own : ℕ) (nears : List Near) → p.number own nears ≡ least_offer own nears
    pub unseen : (s : GraphState) (v w : ℕ) → wakes g p s v w ≡ false → AllByRecursion (λ h. h.other ≡ v → (x : ℕ) → takes h.into x ≡ true → new_number g p s v ≡ s.vertex v) (halves_of g w)

  module _ (g : DataGraph) (is : IsDataGraph g) (p : Update) (relaxes : Relaxes g p) where
    pub new_number-own : (s : GraphState) (v : ℕ) → new_number g p s v ≤ s.vertex v
    new_number-own s v = rw (relaxes.number (s.vertex v) (map (near_of s) (halves_of g v))) (least_offer-own (s.vertex v) (map (near_of s) (halves_of g v)))

    pub new_number-holds : (P : ℕ → Type 0) (s : GraphState) (v : ℕ) → P (s.vertex v) → AllByRecursion (λ h. takes h.into (s.vertex h.other) ≡ true → P (offer (s.vertex h.other) h.weight)) (halves_of g v) → P (new_number g p s v)
    new_number-holds P s v at_own each = rw (relaxes.number (s.vertex v) (map (near_of s) (halves_of g v))) (least_offer-holds P s (s.vertex v) (halves_of g v) at_own each)

    -- no offer to w is lower than its number
    abbrev pub IsRelaxed : ℕ → GraphState → Type 0
    IsRelaxed w s = AllByRecursion (λ h. takes h.into (s.vertex h.other) ≡ true → s.vertex w ≤ offer (s.vertex h.other) h.weight) (halves_of g w)

    pub relaxes-settles : (s : GraphState) (v : ℕ) → IsRelaxed v (after_update g p s v)
    relaxes-settles s v =
        let new = new_number g p s v in
        rw (with_number-same s.vertex v new)
        (each-both (IsHalfAt g is v) (λ h. takes h.into (s.vertex h.other) ≡ true → new ≤ offer (s.vertex h.other) h.weight) (λ h. takes h.into (with_number s.vertex v new h.other) ≡ true → new ≤ offer (with_number s.vertex v new h.other) h.weight)
        (λ h half low. rw (with_number-other s.vertex v new h.other (half_other g is v h half).1) low)
        (halves_of g v) (halves_are g is v)
        (each-weaker (λ h. takes h.into (s.vertex h.other) ≡ true → least_offer (s.vertex v) (map (near_of s) (halves_of g v)) ≤ offer (s.vertex h.other) h.weight) (λ h. takes h.into (s.vertex h.other) ≡ true → new ≤ offer (s.vertex h.other) h.weight)
        (λ h low taken. le_trans (le_of_eq (relaxes.number (s.vertex v) (map (near_of s) (halves_of g v)))) (low taken))
        (halves_of g v) (least_offer-each s (s.vertex v) (halves_of g v))))

    pub relaxes-stays : (s : GraphState) (v w : ℕ) → w ≢ v → wakes g p s v w ≡ false → IsRelaxed w s → IsRelaxed w (after_update g p s v)
    relaxes-stays s v w other asleep relaxed =
        let new = new_number g p s v in
        rw (with_number-other s.vertex v new w other)
        (each-both (λ h. h.other ≡ v → (x : ℕ) → takes h.into x ≡ true → new ≡ s.vertex v) (λ h. takes h.into (s.vertex h.other) ≡ true → s.vertex w ≤ offer (s.vertex h.other) h.weight) (λ h. takes h.into (with_number s.vertex v new h.other) ≡ true → s.vertex w ≤ offer (with_number s.vertex v new h.other) h.weight)
        (λ h unseen low taken. ⊎_elim
        (λ (here : h.other ≡ v).
        let same : with_number s.vertex v new h.other ≡ s.vertex h.other = rw here (with_number-same s.vertex v new ∙ unseen here (with_number s.vertex v new h.other) taken) in
        rw same (low (rw same at taken)))
        (λ (away : h.other ≡ v → ⊥).
        let same = with_number-other s.vertex v new h.other away in
        rw same (low (rw same at taken)))
        (cases_eq h.other v))
        (halves_of g w) (relaxes.unseen s v w asleep) relaxed)
