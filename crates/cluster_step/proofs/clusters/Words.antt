-- Where no word is on its way between the coordinator and a machine, all four places of it are empty.
use Rattle.std.proofs.Common.{◌≡◌, ℕ, Bool, false, List, [], ◌∷◌, ◌++◌, refl, sym, ◌∙◌, ap₂, true≢false}
use Rattle.std.specs.Prelude.{IsTrue, ◌↔◌, ◌||◌}
use Rattle.std.proofs.lemmas.Bool.{false_from_ne_true, or_from, or_parts}
use Rattle.call_laws.specs.whole_calls.Telling.{HasNoWordAt}
use Rattle.cluster_laws.specs.cluster_model.Calls.{Call, Report}
use Rattle.cluster_laws.specs.cluster_model.Clusters.{Cluster}
use Rattle.cluster_laws.specs.cluster_model.Events.{HasNext}

none_next : {X : Type 0} (xs : List X) (b : Bool) → (IsTrue b ↔ HasNext xs) → b ≡ false → xs ≡ []
none_next [] b is off = refl
none_next (x ∷ xs) b is off = absurd (true≢false (sym (is.1 (record { message = x; behind = xs; first = refl })) ∙ off))

nothing : {X : Type 0} (x : X) (xs : List X) → [] ≡ x ∷ xs → ⊥
nothing x xs is = cc

next_none : {X : Type 0} (xs : List X) (b : Bool) → (IsTrue b ↔ HasNext xs) → xs ≡ [] → b ≡ false
next_none xs b is none = false_from_ne_true b (λ yes. let some = is.0 yes in nothing some.message some.behind (sym none ∙ some.first))

no_parts : {X : Type 0} (xs ys : List X) → xs ++ ys ≡ [] → (xs ≡ []) × (ys ≡ [])
no_parts [] ys none = (refl, none)
no_parts (x ∷ xs) ys none = absurd (nothing x (xs ++ ys) (sym none))

module _ (c : Cluster) (a : ℕ) (waits called reports reported : Bool) (waits_is : IsTrue waits ↔ HasNext (c.coordinator.out a)) (called_is : IsTrue called ↔ HasNext (c.calls a))
    (reports_is : IsTrue reports ↔ HasNext (c.machine a).out) (reported_is : IsTrue reported ↔ HasNext (c.reports a)) where
  pub no_word : ((((waits || called) || reports) || reported) ≡ false) ↔ HasNoWordAt c a
  no_word = (
    λ off.
        let first = or_parts ((waits || called) || reports) reported off in
        let second = or_parts (waits || called) reports first.0 in
        let third = or_parts waits called second.0 in (
          ap₂ (λ (xs ys : List Call). xs ++ ys) (none_next (c.calls a) called called_is third.1) (none_next (c.coordinator.out a) waits waits_is third.0),
          ap₂ (λ (xs ys : List Report). xs ++ ys) (none_next (c.reports a) reported reported_is first.1) (none_next (c.machine a).out reports reports_is second.1),
        ),
    λ none.
        let calls = no_parts (c.calls a) (c.coordinator.out a) none.0 in
        let told = no_parts (c.reports a) (c.machine a).out none.1 in
        or_from ((waits || called) || reports) reported
        (or_from (waits || called) reports
        (or_from waits called (next_none (c.coordinator.out a) waits waits_is calls.1) (next_none (c.calls a) called called_is calls.0)) (next_none (c.machine a).out reports reports_is told.1))
        (next_none (c.reports a) reported reported_is told.0),
  )
