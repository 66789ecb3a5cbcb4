-- The search for a free number finds the least one.
use Rattle.std.proofs.Common.{◌≡◌, ℕ, zero, suc, ◌+◌, ◌<◌, ◌≤◌, ◌==◌, Bool, true, false, List, [], ◌∷◌, length, All, ◌≢◌, sym, ◌∙◌, ⊎_elim, subst, true≢false, arith, eq-eqb, ne_eqb, eqb-true, le-leb}
use Rattle.std.specs.List.{list_any}
use Rattle.std.proofs.lemmas.Bool.{cases_Bool, cases_eq, cases_lt, lt-leb}
use Rattle.std.proofs.lemmas.List.Folds.{Any-from_list_any, list_any_at}
use Rattle.update_api.specs.Near.{Near}
use Rattle.update_api.specs.LeastFree.{IsLeastFree, first_free, least_free}
use Rattle.update_api.specs.Supported.{support}
use Rattle.update_api.proofs.SupportedLaws.{support-le-length}

-- some neighbour has this number
abbrev pub is_taken : List Near → ℕ → Bool
is_taken nears k = list_any (λ near. near.number == k) nears

-- found is the first of k, k + 1, .. that no neighbour has
pub record IsFirstFree (nears : List Near) (k found : ℕ) : Type 0 where
  pub above : k ≤ found
  pub free : is_taken nears found ≡ false
  pub least : (j : ℕ) → k ≤ j → j < found → is_taken nears j ≡ true

later : (nears : List Near) (k found : ℕ) → is_taken nears k ≡ true → IsFirstFree nears (k + 1) found → IsFirstFree nears k found
later nears k found taken rest =
    record {
      above = let h = rest.above in omega arith;
      free = rest.free;
      least = λ j low high. ⊎_elim
          (λ (same : j ≡ k). subst (λ i. is_taken nears i ≡ true) (sym same) taken)
          (λ (other : j ≡ k → ⊥). rest.least j (omega arith) high)
          (cases_eq j k);
    }

-- `left` falls with each number that is taken
module _ (nears : List Near) (left : ℕ → ℕ) (falls : (j : ℕ) → is_taken nears j ≡ true → left (j + 1) < left j) where
  pub first_free_is : (more k : ℕ) → left k ≤ more → IsFirstFree nears k (first_free more k nears)
  first_free_is zero k few = ⊎_elim
      (λ (taken : is_taken nears k ≡ true). absurd (let f = falls k taken in omega arith))
      (λ (free : is_taken nears k ≡ false). record { above = omega arith; free = free; least = λ j low high. absurd (omega arith) })
      (cases_Bool (is_taken nears k))
  first_free_is (suc more) k few = ⊎_elim
      (λ (taken : is_taken nears k ≡ true). rw taken
      (later nears k (first_free more (k + 1) nears) taken (first_free_is more (k + 1) (let f = falls k taken in omega arith))))
      (λ (free : is_taken nears k ≡ false). rw free record { above = omega arith; free = free; least = λ j low high. absurd (omega arith) })
      (cases_Bool (is_taken nears k))

  -- the search goes no further than numbers are taken
  pub first_free_low : (more k : ℕ) → first_free more k nears ≤ k + left k
  first_free_low zero k = omega arith
  first_free_low (suc more) k = ⊎_elim
      (λ (taken : is_taken nears k ≡ true). rw taken (let f = falls k taken in let r = first_free_low more (k + 1) in omega arith))
      (λ (free : is_taken nears k ≡ false). rw free (omega arith))
      (cases_Bool (is_taken nears k))

support-more : (j : ℕ) (nears : List Near) → support (j + 1) nears ≤ support j nears
support-more j [] = omega arith
support-more j (near ∷ nears) = let r = support-more j nears in ⊎_elim
    (λ (low : near.number < j). rw (lt-leb (j + 1) near.number (omega arith), lt-leb j near.number low) (omega arith))
    (λ (high : j ≤ near.number). rw (le-leb j near.number high) (⊎_elim
    (λ (low : near.number < j + 1). rw (lt-leb (j + 1) near.number low) (omega arith))
    (λ (top : j + 1 ≤ near.number). rw (le-leb (j + 1) near.number top) (omega arith))
    (cases_lt near.number (j + 1))))
    (cases_lt near.number j)

-- one neighbour less has a number above j than from j on, where one has j
support-taken : (j : ℕ) (nears : List Near) → is_taken nears j ≡ true → support (j + 1) nears < support j nears
support-taken j [] taken = cc
support-taken j (near ∷ nears) taken = ⊎_elim
    (λ (same : near.number ≡ j). rw (lt-leb (j + 1) near.number (omega arith), le-leb j near.number (omega arith)) (let r = support-more j nears in omega arith))
    (λ (other : near.number ≡ j → ⊥).
    let rest : is_taken nears j ≡ true = rw (ne_eqb near.number j other) at taken in
    let r = support-taken j nears rest in ⊎_elim
    (λ (low : near.number < j). rw (lt-leb (j + 1) near.number (omega arith), lt-leb j near.number low) (omega arith))
    (λ (high : j ≤ near.number). rw (le-leb (j + 1) near.number (omega arith), le-leb j near.number high) (omega arith))
    (cases_lt near.number j))
    (cases_eq near.number j)

not_taken : (k : ℕ) (nears : List Near) → is_taken nears k ≡ false → All (λ near. near.number ≢ k) nears
not_taken k nears free = λ i d inside same. true≢false (sym (list_any_at (λ near. near.number == k) nears i d inside (eq-eqb _ _ same)) ∙ free)

pub least_free_first : (nears : List Near) → IsFirstFree nears 1 (least_free nears)
least_free_first nears = first_free_is nears (λ j. support j nears) (λ j taken. support-taken j nears taken) (length nears) 1 (support-le-length 1 nears)

pub least_free_is : (nears : List Near) → IsLeastFree nears (least_free nears)
least_free_is nears =
    let found = least_free_first nears in
    record {
      from_one = found.above;
      free = not_taken (least_free nears) nears found.free;
      least = λ j low high.
          let some = Any-from_list_any (λ near. near.number == j) nears (found.least j low high) in
          (some.0, some.1, some.2, some.3, eqb-true some.1.number j some.4);
    }
