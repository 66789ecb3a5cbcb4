-- What a vertex that an update doesn't wake sees of it.
use Rattle.std.proofs.Common.{◌≡◌, ◌≢◌, ℕ, ◌<◌, ◌==◌, ◌&&◌, true, false, refl, sym, ◌∙◌, subst, ⊎_elim, true≢false, eq-eqb, ne_eqb, eqb-true}
use Rattle.std.specs.List.{AllByRecursion}
use Rattle.std.proofs.lemmas.Bool.{cases_eq, and_parts, and_from}
use Rattle.graph_core.specs.DataGraph.{DataGraph, size, IsDataGraph}
use Rattle.graph_core.specs.Halves.{halves_of}
use Rattle.graph_core.proofs.HalvesLaws.{each-weaker, none_passes, some_passes, IsHalfAt, halves_are, half_other, has_twin}
use Rattle.update_api.specs.declared.woken.Woken.{Woken}
use Rattle.update_api.specs.declared.woken.Woken.TheVariants.{Nobody, Ahead, Around}
use Rattle.update_api.specs.Updates.{Update, where_changed}
use Rattle.seq_run.specs.States.{GraphState, with_number, new_number, is_woken, wakes}

pub with_number-same : (f : ℕ → ℕ) (k x : ℕ) → with_number f k x k ≡ x
with_number-same f k x = rw (eq-eqb k k refl)

pub with_number-other : (f : ℕ → ℕ) (k x i : ℕ) → i ≢ k → with_number f k x i ≡ f i
with_number-other f k x i other = rw (ne_eqb i k other)

-- what holds of x at k and of f at each other number holds of the new function
pub with_number-holds : (P : ℕ → ℕ → Type 0) (f : ℕ → ℕ) (k x i : ℕ) → (i ≡ k → P k x) → (i ≢ k → P i (f i)) → P i (with_number f k x i)
with_number-holds P f k x i at_k elsewhere = ⊎_elim
    (λ (same : i ≡ k). subst (λ j. P j (with_number f k x j)) (sym same) (subst (P k) (sym (with_number-same f k x)) (at_k same)))
    (λ (other : i ≡ k → ⊥). subst (P i) (sym (with_number-other f k x i other)) (elsewhere other))
    (cases_eq i k)

module _ (g : DataGraph) (is : IsDataGraph g) where
  is_woken-within : (woken : Woken) (v u : ℕ) → is_woken woken (halves_of g v) u ≡ true → u < size g
  is_woken-within Nobody v u yes_woken = absurd (true≢false (sym yes_woken))
  is_woken-within Ahead v u yes_woken =
      let some = some_passes (IsHalfAt g is v) (λ h. h.out && h.other == u) (halves_of g v) yes_woken (halves_are g is v) in
      let same = eqb-true some.0.other u (and_parts some.0.out (some.0.other == u) some.2).1 in
      subst (λ x. x < size g) same (half_other g is v some.0 some.1).0
  is_woken-within Around v u yes_woken =
      let some = some_passes (IsHalfAt g is v) (λ h. h.other == u) (halves_of g v) yes_woken (halves_are g is v) in
      subst (λ x. x < size g) (eqb-true some.0.other u some.2) (half_other g is v some.0 some.1).0

  -- only vertices are woken
  pub wakes-within : (p : Update) (s : GraphState) (v u : ℕ) → wakes g p s v u ≡ true → u < size g
  wakes-within p s v u woken = is_woken-within (p.woken (s.vertex v) (new_number g p s v)) v u woken

  -- where those ahead are woken, each other vertex sees no new number from behind
  pub unseen_behind : (p : Update) → ((old new : ℕ) → p.woken old new ≡ where_changed Ahead old new) → (s : GraphState) (v w : ℕ) → wakes g p s v w ≡ false → AllByRecursion (λ h. h.other ≡ v → h.into ≡ true → new_number g p s v ≡ s.vertex v) (halves_of g w)
  unseen_behind p says s v w asleep =
      each-weaker (IsHalfAt g is w) (λ h. h.other ≡ v → h.into ≡ true → new_number g p s v ≡ s.vertex v)
      (λ h half other into. ⊎_elim
      (λ (same : s.vertex v ≡ new_number g p s v). sym same)
      (λ (changed : s.vertex v ≡ new_number g p s v → ⊥).
      let ahead : p.woken (s.vertex v) (new_number g p s v) ≡ Ahead = says (s.vertex v) (new_number g p s v) ∙ (rw (ne_eqb (s.vertex v) (new_number g p s v) changed)) in
      let none = none_passes (λ h. h.out && h.other == w) (halves_of g v) (rw ahead at asleep) in
      let here = has_twin g is w h (λ h. (h.out && h.other == w) ≡ false) half (subst (λ x. AllByRecursion (λ h. (h.out && h.other == w) ≡ false) (halves_of g x)) (sym other) none) in
      absurd (true≢false (sym (and_from h.into (w == w) into (eq-eqb w w refl)) ∙ here)))
      (cases_eq (s.vertex v) (new_number g p s v)))
      (halves_of g w) (halves_are g is w)

  -- where all around are woken, each other vertex sees no new number
  pub unseen_around : (p : Update) → ((old new : ℕ) → p.woken old new ≡ where_changed Around old new) → (s : GraphState) (v w : ℕ) → wakes g p s v w ≡ false → AllByRecursion (λ h. h.other ≡ v → new_number g p s v ≡ s.vertex v) (halves_of g w)
  unseen_around p says s v w asleep =
      each-weaker (IsHalfAt g is w) (λ h. h.other ≡ v → new_number g p s v ≡ s.vertex v)
      (λ h half other. ⊎_elim
      (λ (same : s.vertex v ≡ new_number g p s v). sym same)
      (λ (changed : s.vertex v ≡ new_number g p s v → ⊥).
      let around : p.woken (s.vertex v) (new_number g p s v) ≡ Around = says (s.vertex v) (new_number g p s v) ∙ (rw (ne_eqb (s.vertex v) (new_number g p s v) changed)) in
      let none = none_passes (λ h. h.other == w) (halves_of g v) (rw around at asleep) in
      let here = has_twin g is w h (λ h. (h.other == w) ≡ false) half (subst (λ x. AllByRecursion (λ h. (h.other == w) ≡ false) (halves_of g x)) (sym other) none) in
      absurd (true≢false (sym (eq-eqb w w refl) ∙ here)))
      (cases_eq (s.vertex v) (new_number g p s v)))
      (halves_of g w) (halves_are g is w)
