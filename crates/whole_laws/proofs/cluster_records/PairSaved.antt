-- A machine asks for a snapshot, event by event.
use Rattle.std.proofs.Common.{◌≡◌, ◌≢◌, ℕ, zero, suc, ◌<◌, Bool, true, false, if◌then◌else◌, None, Option, Some, [], ◌∷◌, inl, inr, refl, ⊎_elim, arith}
use Rattle.gl_base.specs.declared.scopes.ScopeId.{ScopeId}
use Rattle.cluster_laws.specs.cluster_core.Ranges.{first_passing}
use Rattle.cluster_laws.specs.cluster_core.Scopes.{is_scope, set_for}
use Rattle.cluster_laws.specs.cluster_model.Calls.{Want}
use Rattle.cluster_laws.specs.cluster_model.Events.{Admit, IsTrace, MayDo, entries_in_all, newest_of}
use Rattle.cluster_laws.specs.cluster_model.Machines.{outside}
use Rattle.cluster_laws.specs.cluster_model.Totals.{total_from}
use Rattle.cluster_laws.specs.cluster_model.TwoWaves.{IsIdleAnswer}
use Rattle.whole_laws.specs.cluster_records.LonePair.{pair_alone, pair_at_first, pair_entry, pair_saved, pair_saves, pair_scope, pair_updated, pair_updates}
use Rattle.seq_run.proofs.EachOf.{all_is}

none_some : (v : ℕ) → None ≢ Some v
none_some v is = cc

false_true : false ≡ true → ⊥
false_true is = cc

-- a scope that was in flight and is over
cleared : (f : ScopeId → Option ℕ) (s : ScopeId) (u v : ℕ) → ((t : ScopeId) → f t ≢ Some v) → (t : ScopeId) → set_for (set_for f s (Some u)) s None t ≢ Some v
cleared f s u v none t = by_test (is_scope t s)
  where
    by_test : (b : Bool) → (if b then None else (if b then Some u else f t)) ≢ Some v
    by_test true is = none_some v is
    by_test false is = none t is

abbrev never : ScopeId → Option ℕ
never s = None

abbrev after_one : ScopeId → Option ℕ
after_one = set_for (set_for never (pair_scope 0) (Some 0)) (pair_scope 0) None

abbrev after_two : ScopeId → Option ℕ
after_two = set_for (set_for after_one (pair_scope 1) (Some 0)) (pair_scope 1) None

abbrev after_three : ScopeId → Option ℕ
after_three = set_for (set_for after_two (pair_scope 2) (Some 1)) (pair_scope 2) None

one_free : (v : ℕ) (t : ScopeId) → after_one t ≢ Some v
one_free v = cleared never (pair_scope 0) 0 v (λ t. none_some v)

two_free : (v : ℕ) (t : ScopeId) → after_two t ≢ Some v
two_free v = cleared after_one (pair_scope 1) 0 v (one_free v)

three_free : (v : ℕ) (t : ScopeId) → after_three t ≢ Some v
three_free v = cleared after_two (pair_scope 2) 1 v (two_free v)

low : 0 < 1
low = omega arith

pub updates_may : IsTrace pair_alone pair_at_first pair_updates pair_updated
unfolding first_passing
updates_may = (
  (
    refl,
    (
      λ due. ⊎_elim (λ (wanted : false ≡ true). false_true wanted) (λ end. (all_is IsIdleAnswer (None ∷ []) end.0.shown.idle).0) due.wanted,
      record { colour = λ v. 1; colours = 1; by = refl; some = omega arith; whole = refl; over = inl refl },
    ),
  ),
  (
    (refl, (low, record { message = _; behind = _; first = refl })),
    (
      (refl, (record { machine = low; runs = refl }, record { message = _; behind = _; first = refl })),
      (
        (
          refl,
          (
            record { machine = low; runs = refl },
            record { may = record { vertex = omega arith; owned = refl; due = inr refl; fresh = λ s. none_some 0; turn = (refl, refl) }; room = inr refl },
          ),
        ),
        (
          (refl, (record { machine = low; runs = refl }, record { vertex = 0; flight = refl; ready = refl; not_pending = refl; task = refl; ticket = omega arith })),
          refl,
        ),
      ),
    ),
  ),
)

pub asked_then : ((pair_updated.machine 0).out ≡ Want 0 ∷ []) × ((pair_updated.machine 0).behind ≡ pair_entry ∷ [])
unfolding first_passing
asked_then = (refl, refl)

pub not_now : MayDo pair_alone pair_updated (Admit 0 1) → ⊥
unfolding first_passing
not_now may = ⊎_elim (λ (pends : false ≡ true). false_true pends) (λ (room : false ≡ true). false_true room) may.1.room

no_other : (n : ℕ) → suc n < 1 → ⊥
no_other n is = omega arith

none_else : (n : ℕ) → suc (suc n) < 2 → ⊥
none_else n is = omega arith

both_marked : (P : ℕ → Type 0) → P 0 → P 1 → (v : ℕ) → v < 2 → P v
both_marked P first second zero low = first
both_marked P first second (suc zero) low = second
both_marked P first second (suc (suc n)) low = absurd (none_else n low)

one_alone : (P : ℕ → Type 0) → P 0 → (a : ℕ) → a < 1 → P a
one_alone P first zero low = first
one_alone P first (suc n) low = absurd (no_other n low)

pub saves_may : IsTrace pair_alone pair_updated pair_saves pair_saved
unfolding first_passing total_from
saves_may = (
  (refl, (record { machine = low; runs = refl }, record { message = _; behind = _; first = refl })),
  (
    (refl, (low, record { message = _; behind = _; first = refl })),
    (
      (refl, record { stored = refl; none = refl; wanted = inl refl }),
      (
        (refl, (low, record { message = _; behind = _; first = refl })),
        (
          (refl, (record { machine = low; runs = refl }, record { message = _; behind = _; first = refl })),
          (
            (
              refl,
              (
                record { machine = low; runs = refl },
                record { may = record { vertex = omega arith; owned = refl; due = inl refl; fresh = λ s. one_free 0 s; turn = (refl, refl) }; room = inl refl },
              ),
            ),
            (
              (refl, (record { machine = low; runs = refl }, record { vertex = 0; flight = refl; ready = refl; pending = refl })),
              (
                (
                  refl,
                  (
                    record { machine = low; runs = refl },
                    record { may = record { vertex = omega arith; owned = refl; due = inl refl; fresh = λ s. two_free 1 s; turn = (refl, refl) }; room = inl refl },
                  ),
                ),
                (
                  (refl, (record { machine = low; runs = refl }, record { vertex = 1; flight = refl; ready = refl; pending = refl })),
                  (
                    (refl, (record { machine = low; runs = refl }, record { begun = omega arith; marked = both_marked _ (λ here. refl) (λ here. refl); unsent = omega arith })),
                    (
                      (refl, (record { machine = low; runs = refl }, record { message = _; behind = _; first = refl })),
                      (
                        (refl, (low, record { message = _; behind = _; first = refl })),
                        (
                          (refl, (record { under = omega arith; sections = one_alone _ (_, refl) }, record { few = omega arith; short = omega arith })),
                          (
                            (refl, (low, record { message = _; behind = _; first = refl })),
                            ((refl, (record { machine = low; runs = refl }, record { message = _; behind = _; first = refl })), refl),
                          ),
                        ),
                      ),
                    ),
                  ),
                ),
              ),
            ),
          ),
        ),
      ),
    ),
  ),
)

pub saved_then : (entries_in_all pair_alone pair_saved.coordinator.snapshots ≡ pair_entry ∷ [])
    × ((newest_of pair_alone pair_saved.coordinator.snapshots pair_alone.start).vertex 0 ≡ 1) × ((newest_of pair_alone pair_saved.coordinator.snapshots pair_alone.start).vertex 1 ≡ 2)
    × (pair_saved.coordinator.acknowledged ≡ 1) × (outside (pair_saved.machine 0) ≡ 0)
unfolding first_passing total_from
saved_then = (refl, refl, refl, refl, refl)

pub again_may : MayDo pair_alone pair_saved (Admit 0 1)
unfolding first_passing total_from
again_may = (
  record { machine = low; runs = refl },
  record { may = record { vertex = omega arith; owned = refl; due = inr refl; fresh = λ s. three_free 1 s; turn = (refl, refl) }; room = inr refl },
)
