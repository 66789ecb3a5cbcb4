-- The search for a supported number finds the greatest one.
use Rattle.std.proofs.Common.{◌≡◌, ℕ, zero, suc, ◌<◌, ◌≤◌, min, true, false, List, [], ◌∷◌, length, subst, ⊎_elim, arith, le-leb, leb-true, le_trans}
use Rattle.std.proofs.Math.Nat.{min-le_left, le-min}
use Rattle.std.specs.Prelude.{nat_le}
use Rattle.std.proofs.lemmas.Bool.{cases_Bool, cases_eq, cases_lt, lt-leb}
use Rattle.update_api.specs.Near.{Near}
use Rattle.update_api.specs.Supported.{support, IsGreatestSupported, greatest_supported}

pub support-le-length : (j : ℕ) (nears : List Near) → support j nears ≤ length nears
support-le-length j [] = omega arith
support-le-length j (near ∷ nears) = let r = support-le-length j nears in ⊎_elim
    (λ (low : near.number < j). rw (lt-leb j near.number low) (omega arith))
    (λ (high : j ≤ near.number). rw (le-leb j near.number high) (omega arith))
    (cases_lt near.number j)

pub greatest-le : (most : ℕ) (nears : List Near) → greatest_supported most nears ≤ most
greatest-le zero nears = omega arith
greatest-le (suc k) nears = ⊎_elim
    (λ (enough : nat_le (suc k) (support (suc k) nears) ≡ true). rw enough (omega arith))
    (λ (few : nat_le (suc k) (support (suc k) nears) ≡ false). rw few (let rest = greatest-le k nears in omega arith))
    (cases_Bool (nat_le (suc k) (support (suc k) nears)))

pub greatest-supported : (most : ℕ) (nears : List Near) → greatest_supported most nears ≤ support (greatest_supported most nears) nears
greatest-supported zero nears = omega arith
greatest-supported (suc k) nears = ⊎_elim
    (λ (enough : nat_le (suc k) (support (suc k) nears) ≡ true). rw enough (leb-true (suc k) (support (suc k) nears) enough))
    (λ (few : nat_le (suc k) (support (suc k) nears) ≡ false). rw few (greatest-supported k nears))
    (cases_Bool (nat_le (suc k) (support (suc k) nears)))

pub greatest-above : (j most : ℕ) (nears : List Near) → j ≤ most → j ≤ support j nears → j ≤ greatest_supported most nears
greatest-above j zero nears low enough = omega arith
greatest-above j (suc k) nears low enough = ⊎_elim
    (λ (same : j ≡ suc k).
    let here : nat_le (suc k) (support (suc k) nears) ≡ true = subst (λ i. nat_le i (support i nears) ≡ true) same (le-leb j (support j nears) enough) in
    rw here (omega arith))
    (λ (other : j ≡ suc k → ⊥).
    let rest = greatest-above j k nears (omega arith) enough in ⊎_elim
    (λ (more : nat_le (suc k) (support (suc k) nears) ≡ true). rw more low)
    (λ (few : nat_le (suc k) (support (suc k) nears) ≡ false). rw few rest)
    (cases_Bool (nat_le (suc k) (support (suc k) nears))))
    (cases_eq j (suc k))

pub greatest_is : (own : ℕ) (nears : List Near) → IsGreatestSupported own nears (greatest_supported (min own (length nears)) nears)
greatest_is own nears =
    record {
      low = le_trans (greatest-le (min own (length nears)) nears) (min-le_left own (length nears));
      supported = greatest-supported (min own (length nears)) nears;
      greatest = λ j low enough. greatest-above j (min own (length nears)) nears (le-min low (le_trans enough (support-le-length j nears))) enough;
    }
