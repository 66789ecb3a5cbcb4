-- What becomes of look-ups where the item at one place is written.
use Rattle.std.proofs.Common.{◌≡◌, ◌≢◌, ℕ, ◌<◌, ◌==◌, if◌then◌else◌, Option, Some, None, List, length, slice_get, set, refl, sym, ap, ◌∙◌, arith, inl, inr}
use Rattle.std.proofs.lemmas.Bool.{cases_eq, cases_lt, eq-eqb, ne_eqb}
use Rattle.std.proofs.lemmas.Option.{slice_get-get_or, slice_get_past}
use Rattle.std.proofs.lemmas.List.{get_or-set_same, get_or-set_other, length-set}
use Rattle.local_graph.specs.Locals.{at_place, got_at, place_of_vertex}

-- no two vertices have one place
abbrev pub AreApart : List (Option ℕ) → Type 0
AreApart places = (x y k : ℕ) → place_of_vertex places x ≡ Some k → place_of_vertex places y ≡ Some k → x ≡ y

other_at : {X : Type 0} (xs : List X) (i : ℕ) (x d : X) (o : Option ℕ) → (o ≡ Some i → ⊥) → at_place (set xs i x) o d ≡ at_place xs o d
other_at xs i x d None not = refl
other_at xs i x d (Some k) not = get_or-set_other xs i k x d (λ e. not (ap Some e))

-- the item at the place of v is written
pub at_written : {X : Type 0} (places : List (Option ℕ)) (xs : List X) (v i : ℕ) (x d : X) → AreApart places → place_of_vertex places v ≡ Some i → i < length xs
    → (y : ℕ) → at_place (set xs i x) (place_of_vertex places y) d ≡ (if y == v then x else at_place xs (place_of_vertex places y) d)
at_written {X} places xs v i x d apart at inside y = elim (cases_eq y v) [
  | inl same ↦
      ap (λ (k : ℕ). at_place (set xs i x) (place_of_vertex places k) d) same ∙ ap (λ o. at_place (set xs i x) o d) at ∙ get_or-set_same xs i x d inside
      ∙ sym (ap (λ b. if b then x else at_place xs (place_of_vertex places y) d) (eq-eqb y v same))
  | inr other ↦
      other_at xs i x d (place_of_vertex places y) (λ e. other (apart y v i e at))
      ∙ sym (ap (λ b. if b then x else at_place xs (place_of_vertex places y) d) (ne_eqb y v other))
]

got_other : {X : Type 0} (xs : List X) (i j : ℕ) (x : X) → j ≢ i → slice_get (set xs i x) j ≡ slice_get xs j
got_other {X} xs i j x other = elim (cases_lt j (length xs)) [
  | inl inside ↦
      slice_get-get_or (set xs i x) j x (omega (arith, length-set xs i x)) ∙ ap Some (get_or-set_other xs i j x x other)
      ∙ sym (slice_get-get_or xs j x inside)
  | inr past ↦ slice_get_past (set xs i x) j (omega (arith, length-set xs i x)) ∙ sym (slice_get_past xs j past)
]

got_same : {X : Type 0} (xs : List X) (i : ℕ) (x : X) → i < length xs → slice_get (set xs i x) i ≡ Some x
got_same xs i x inside = slice_get-get_or (set xs i x) i x (omega (arith, length-set xs i x)) ∙ ap Some (get_or-set_same xs i x x inside)

other_got : {X : Type 0} (xs : List X) (i : ℕ) (x : X) (o : Option ℕ) → (o ≡ Some i → ⊥) → got_at (set xs i x) o ≡ got_at xs o
other_got xs i x None not = refl
other_got xs i x (Some k) not = got_other xs i k x (λ e. not (ap Some e))

pub got_written : {X : Type 0} (places : List (Option ℕ)) (xs : List X) (v i : ℕ) (x : X) → AreApart places → place_of_vertex places v ≡ Some i → i < length xs
    → (y : ℕ) → got_at (set xs i x) (place_of_vertex places y) ≡ (if y == v then Some x else got_at xs (place_of_vertex places y))
got_written {X} places xs v i x apart at inside y = elim (cases_eq y v) [
  | inl same ↦
      ap (λ (k : ℕ). got_at (set xs i x) (place_of_vertex places k)) same ∙ ap (λ o. got_at (set xs i x) o) at ∙ got_same xs i x inside
      ∙ sym (ap (λ b. if b then Some x else got_at xs (place_of_vertex places y)) (eq-eqb y v same))
  | inr other ↦
      other_got xs i x (place_of_vertex places y) (λ e. other (apart y v i e at))
      ∙ sym (ap (λ b. if b then Some x else got_at xs (place_of_vertex places y)) (ne_eqb y v other))
]
