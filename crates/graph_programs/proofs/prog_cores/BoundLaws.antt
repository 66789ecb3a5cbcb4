-- The search for the greatest supported number between two bounds.
use Rattle.std.proofs.Common.{◌≡◌, ◌≤◌, ◌<◌, ◌-◌, ℕ, true, max, min, ⊎_elim, nat_le, List, [], ◌∷◌, inl, inr, le_refl, le_trans, arith}
use Rattle.std.proofs.lemmas.Bool.{cases_Bool, cases_lt, le-leb, leb-true}
use Rattle.std.proofs.Math.Nat.{min-le_left, le-min}
use Rattle.update_api.specs.Near.{Near}
use Rattle.update_api.specs.Supported.{greatest_supported, support}
use Rattle.update_api.proofs.SupportedLaws.{greatest-above, greatest-le, greatest-supported}

-- fewer neighbours reach a greater number
pub support-falls : (k j : ℕ) (nears : List Near) → k ≤ j → support j nears ≤ support k nears
support-falls k j [] up = le_refl 0
support-falls k j (near ∷ nears) up =
    let rest = support-falls k j nears up in
    elim (cases_Bool (nat_le j near.number)) [
      | inl far ↦
          let near_too : nat_le k near.number ≡ true = le-leb k near.number (le_trans up (leb-true j near.number far)) in
          rw far (rw near_too (omega (arith, rest)))
      | inr not_far ↦ rw not_far (omega (arith, rest))
    ]

-- the low number is supported, and none above the high one is
pub record IsBetween (most low high : ℕ) (nears : List Near) : Type 0 where
  pub within : low ≤ high
  pub top : high ≤ most
  pub held : low ≤ support low nears
  pub none : (j : ℕ) → high < j → j ≤ most → j ≤ support j nears → ⊥

-- so it is after a look at a number that enough neighbours reach
pub met : (most low high k count low_then high_then : ℕ) (nears : List Near) → IsBetween most low high nears → low < k → k ≤ high →
    count ≡ support k nears → k ≤ count → low_then ≡ k → high_then ≡ min high count → IsBetween most low_then high_then nears
met most low high k count low_then high_then nears is above below counted enough low_is high_is =
    record {
      within = rw (low_is, high_is) (le-min below enough);
      top = rw high_is (le_trans (min-le_left high count) is.top);
      held = rw low_is (omega (arith, counted, enough));
      none = λ j past inside held.
          let over : min high count < j = omega (arith, past, high_is) in
          ⊎_elim
          (λ (upper : high < j). is.none j upper inside held)
          (λ (lower : j ≤ high).
          let more : count < j = omega (arith, over, lower) in
          let falls = support-falls k j nears (omega (arith, more, enough)) in
          omega (arith, falls, counted, more, held))
          (cases_lt high j);
    }

-- so it is after a look at one that too few reach
pub missed : (most low high k count low_then high_then : ℕ) (nears : List Near) → IsBetween most low high nears → low < k → k ≤ high →
    count ≡ support k nears → count < k → low_then ≡ max low count → high_then ≡ k - 1 → IsBetween most low_then high_then nears
missed most low high k count low_then high_then nears is above below counted few low_is high_is =
    let falls = support-falls count k nears (omega (arith, few)) in
    record {
      within = omega (arith, low_is, high_is, above, few);
      top = omega (arith, high_is, below, is.top);
      held = ⊎_elim
          (λ (lower : low < count). let same : low_then ≡ count = omega (arith, low_is, lower) in rw same (omega (arith, falls, counted)))
          (λ (higher : count ≤ low). let same : low_then ≡ low = omega (arith, low_is, higher) in rw same is.held)
          (cases_lt low count);
      none = λ j past inside held.
          let over : k ≤ j = omega (arith, past, high_is, above) in
          let fewer = support-falls k j nears over in
          omega (arith, fewer, counted, few, over, held);
    }

-- where the bounds have met, they are at the greatest supported number
pub found : (most low high : ℕ) (nears : List Near) → IsBetween most low high nears → high ≤ low → low ≡ greatest_supported most nears
found most low high nears is ended =
    let up = greatest-above low most nears (le_trans is.within is.top) is.held in
    let top = greatest-supported most nears in
    let below = greatest-le most nears in
    same low (greatest_supported most nears) up (λ less. is.none (greatest_supported most nears) (omega (arith, less, ended)) below top)
  where
    same : (a b : ℕ) → a ≤ b → (a < b → ⊥) → a ≡ b
    same a b up not = omega (arith, up, not)
