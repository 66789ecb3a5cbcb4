-- Steps on a board, one after another.
use Rattle.std.proofs.Common.{List, None, [], ap, arith, false, inl, inr, length, refl, subst, suc, true, zero, ◌++◌, ◌<◌, ◌∷◌, ◌≡◌, ◌⊎◌, ⊎_elim, ℕ}
use Rattle.std.specs.Prelude.{Bool, map, slice_index_or, slice_set}
use Rattle.link_tables.proofs.Seeing.{sees_same}
use Rattle.link_tables.specs.Seats.{view}
use Rattle.wire_board.specs.Attempts.{numbered_members}
use Rattle.wire_board.specs.Directing.{HasDirectedIf}
use Rattle.wire_board.specs.Stepping.{Act, AreSteps, CoordinatorView, HasMadeByOne, HasStepped, IsStep, LeadAct, LinkView, Machine, Sat, Seated, Setting, machines_of}

pub map_put : {A B : Type 0} (f : A → B) (xs : List A) (a : ℕ) (x : A) → map f (slice_set xs a x) ≡ slice_set (map f xs) a (f x)
map_put f [] a x = refl
map_put f (y ∷ xs) zero x = refl
map_put {A} {B} f (y ∷ xs) (suc a) x = ap (λ (l : List B). f y ∷ l) (map_put f xs a x)

pub map_read : {A B : Type 0} (f : A → B) (xs : List A) (a : ℕ) (x : A) → a < length xs → x ≡ slice_index_or xs a x → f x ≡ slice_index_or (map f xs) a (f x)
map_read f [] a x low is = absurd (omega arith)
map_read f (y ∷ xs) zero x low is = ap f is
map_read f (y ∷ xs) (suc a) x low is = map_read f xs a x (omega arith) is

pub map_snoc : {A B : Type 0} (f : A → B) (xs : List A) (x : A) → map f (xs ++ x ∷ []) ≡ map f xs ++ f x ∷ []
map_snoc f [] x = refl
map_snoc {A} {B} f (y ∷ xs) x = ap (λ (l : List B). f y ∷ l) (map_snoc f xs x)

pub machines_numbered : {M : Type 0} (peers k : ℕ) (xs : List M) → machines_of (numbered_members peers k xs) ≡ xs
machines_numbered peers k [] = refl
machines_numbered {M} peers k (x ∷ xs) = ap (λ (l : List M). x ∷ l) (machines_numbered peers (suc k) xs)

module _ {M : Type 0} (represents : Setting → ℕ → Machine → M → Type 0) (n : ℕ) where
  steps_snoc : (before : List (List Act × List LeadAct)) (last : List Act × List LeadAct) (xs ms ys : List M) (c e d : CoordinatorView) → AreSteps represents n before xs c ms e → IsStep represents n last ms e ys d
      → AreSteps represents n (before ++ last ∷ []) xs c ys d
  steps_snoc [] last xs ms ys c e d are is =
      (ys, d, subst (λ (l : List M). IsStep represents n last l c ys d) are.0 (subst (λ (v : CoordinatorView). IsStep represents n last ms v ys d) are.1 is), (refl, refl))
  steps_snoc (step ∷ before) last xs ms ys c e d are is = (are.0, are.1, are.2, steps_snoc before last are.0 ms ys are.1 e d are.3 is)

  pub stepped_on : (xs ms ys : List M) (c e d : CoordinatorView) (old new : Sat (Seated M) LinkView) (some here there both : Bool) → HasStepped represents n xs c ms e some → HasMadeByOne represents n ms ys here
      → HasDirectedIf n e old d new there → (both ≡ true → (here ≡ true) ⊎ (there ≡ true)) → (both ≡ false → (here ≡ false) × (there ≡ false)) → HasStepped represents n xs c ys d both
  stepped_on xs ms ys c e d old new some here there both first made led one none = (
    first.0 ++ first.4 ∷ [],
    ms,
    e,
    steps_snoc first.0 first.4 xs first.1 ms c first.2 e first.3 first.5,
    (made.0, led.0),
    (made.1, old, new, led.1),
    λ so. ⊎_elim (λ (h : here ≡ true). inl (made.2 h)) (λ (t : there ≡ true). inr (led.2 t)) (one so),
    λ so. let calm = none so in (made.3 calm.0, led.3 calm.1),
  )

  pub made_none : (xs : List M) → HasMadeByOne represents n xs xs false
  made_none xs = ([], inr (refl, refl), λ e. absurd (cc), λ e. refl)

  pub stepped_none : (xs : List M) (c : CoordinatorView) → HasStepped represents n xs c xs c false
  stepped_none xs c =
      let me : Sat (Seated M) LinkView = (view [] None 0 [], []) in
      ([], xs, c, (refl, refl), ([], []), (inr (refl, refl), me, me, ((λ st k of. of), sees_same me me refl)), λ e. absurd (cc), λ e. (refl, refl))
