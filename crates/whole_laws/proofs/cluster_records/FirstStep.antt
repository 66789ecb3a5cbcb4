-- The first step of the four vertices in a line.
use Rattle.std.proofs.Common.{◌≡◌, ◌≢◌, ◌⊎◌, ℕ, zero, suc, ◌<◌, true, false, None, Some, List, [], ◌∷◌, inl, inr, refl, sym, subst, arith}
use Rattle.std.proofs.lemmas.List.Elements.{All-from_recursion}
use Rattle.gl_base.specs.declared.scopes.Claim.{Claim}
use Rattle.cluster_laws.specs.cluster_model.Clusters.{Cluster}
use Rattle.cluster_laws.specs.cluster_model.Events.{Admit, Grant, IsTrace, MayDo, recovers}
use Rattle.cluster_laws.specs.cluster_places.Steps.{AreApart}
use Rattle.whole_laws.specs.cluster_records.LineOfFour.{colour_in_line, first_step, in_first_step, line_base, line_in_colours, line_of_four}

none_some : (v : ℕ) → None ≢ Some v
none_some v is = cc

two_one : ◌≡◌ {A = ℕ} 2 1 → ⊥
two_one is = omega arith

nil_cons : (x : Claim) (xs : List Claim) → [] ≡ x ∷ xs → ⊥
nil_cons x xs is = cc

low : 0 < 2
low = omega arith

too_high : (n : ℕ) → suc (suc (suc (suc n))) < 4 → ⊥
too_high n is = omega arith

no_machine : (n : ℕ) → suc (suc n) < 2 → ⊥
no_machine n is = omega arith

false_true : false ≡ true → ⊥
false_true is = cc

one_two : ◌≡◌ {A = ℕ} 1 2 → ⊥
one_two is = omega arith

pub coloured : AreApart line_in_colours colour_in_line
coloured = All-from_recursion (λ e. colour_in_line e.from ≢ colour_in_line e.to) line_of_four.edges (one_two, (two_one, (one_two, tt)))

pub trace : (c : Cluster) → IsTrace line_in_colours (recovers line_in_colours line_base c) first_step (in_first_step c)
trace c = (
  (refl, (λ due. false_true due.stored, record { colour = colour_in_line; colours = 2; by = refl; some = low; whole = refl; over = inl refl })),
  (
    (refl, (low, record { message = _; behind = _; first = refl })),
    (
      (refl, (one_low, record { message = _; behind = _; first = refl })),
      (
        (refl, (record { machine = low; runs = refl }, record { message = _; behind = _; first = refl })),
        ((refl, (record { machine = one_low; runs = refl }, record { message = _; behind = _; first = refl })), refl),
      ),
    ),
  ),
)
  where
    one_low : 1 < 2
    one_low = omega arith

pub offered : (c : Cluster) → MayDo line_in_colours (in_first_step c) (Admit 0 0) × MayDo line_in_colours (in_first_step c) (Admit 1 2)
offered c = (
  (record { machine = low; runs = refl }, record { may = record { vertex = here; owned = refl; due = inr refl; fresh = λ s. none_some 0; turn = (refl, refl) }; room = inr refl }),
  (record { machine = one_low; runs = refl }, record { may = record { vertex = there; owned = refl; due = inr refl; fresh = λ s. none_some 2; turn = (refl, refl) }; room = inr refl }),
)
  where
    one_low : 1 < 2
    one_low = omega arith

    here : 0 < 4
    here = omega arith

    there : 2 < 4
    there = omega arith

by_vertex : (c : Cluster) (v : ℕ) → MayDo line_in_colours (in_first_step c) (Admit (line_in_colours.owner v) v) → (v ≡ 0) ⊎ (v ≡ 2)
by_vertex c zero may = inl refl
by_vertex c (suc zero) may = absurd (two_one may.1.may.turn.0)
by_vertex c (suc (suc zero)) may = inr refl
by_vertex c (suc (suc (suc zero))) may = absurd (two_one may.1.may.turn.0)
by_vertex c (suc (suc (suc (suc n)))) may = absurd (too_high n may.1.may.vertex)

pub no_other : (c : Cluster) (a v : ℕ) → MayDo line_in_colours (in_first_step c) (Admit a v) → (v ≡ 0) ⊎ (v ≡ 2)
no_other c a v may = by_vertex c v (subst (λ (b : ℕ). MayDo line_in_colours (in_first_step c) (Admit b v)) (sym may.1.may.owned) may)

pub no_grant : (c : Cluster) (a x : ℕ) → MayDo line_in_colours (in_first_step c) (Grant a x) → ⊥
no_grant c zero x may = nil_cons may.1.claim may.1.behind may.1.first
no_grant c (suc zero) x may = nil_cons may.1.claim may.1.behind may.1.first
no_grant c (suc (suc n)) x may = no_machine n may.0.machine
