-- Options, and lists of which some element passes.
use Rattle.std.proofs.Common.{◌≡◌, ℕ, zero, suc, ◌<◌, Bool, true, false, ◌||◌, ◌⊎◌, List, [], ◌∷◌, ◌++◌, length, is_some, slice_index_or, Some, None, sym, refl, ap, ◌∙◌, true≢false, arith}
use Rattle.std.specs.List.{list_any}
use Rattle.std.proofs.lemmas.Bool.{or_cases, or_from, or_left, or_right}
use Rattle.std.proofs.lemmas.List.Folds.{list_any-append}

-- ---- options

pub some_same : {X : Type 0} (x y : X) → Some x ≡ Some y → x ≡ y
some_same x y same = cc

pub none_not_some : {X : Type 0} (x : X) → None ≡ Some x → ⊥
none_not_some x same = true≢false (sym (ap is_some same))

-- ---- some element passes

pub any_at : {X : Type 0} (test : X → Bool) (xs : List X) (k : ℕ) (d : X) → k < length xs → test (slice_index_or xs k d) ≡ true → list_any test xs ≡ true
any_at test [] k d within is = absurd (omega arith)
any_at test (x ∷ xs) zero d within is = or_left (test x) (list_any test xs) is
any_at test (x ∷ xs) (suc k) d within is = or_right (test x) (list_any test xs) (any_at test xs k d (omega arith) is)

-- one list after another
pub any-left : {X : Type 0} (test : X → Bool) (xs ys : List X) → list_any test xs ≡ true → list_any test (xs ++ ys) ≡ true
any-left test xs ys some = list_any-append test xs ys ∙ or_left (list_any test xs) (list_any test ys) some

pub any-right : {X : Type 0} (test : X → Bool) (xs ys : List X) → list_any test ys ≡ true → list_any test (xs ++ ys) ≡ true
any-right test xs ys some = list_any-append test xs ys ∙ or_right (list_any test xs) (list_any test ys) some

pub any-either : {X : Type 0} (test : X → Bool) (xs ys : List X) → list_any test (xs ++ ys) ≡ true → (list_any test xs ≡ true) ⊎ (list_any test ys ≡ true)
any-either test xs ys some = or_cases (list_any test xs) (list_any test ys) (sym (list_any-append test xs ys) ∙ some)

pub any-neither : {X : Type 0} (test : X → Bool) (xs ys : List X) → list_any test xs ≡ false → list_any test ys ≡ false → list_any test (xs ++ ys) ≡ false
any-neither test xs ys one other = list_any-append test xs ys ∙ or_from (list_any test xs) (list_any test ys) one other

-- a list of one
pub any_one : {X : Type 0} (test : X → Bool) (x : X) → list_any test (x ∷ []) ≡ test x
any_one test x = or_false (test x)
  where
    or_false : (b : Bool) → (b || false) ≡ b
    or_false true = refl
    or_false false = refl
