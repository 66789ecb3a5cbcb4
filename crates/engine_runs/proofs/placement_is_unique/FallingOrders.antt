-- Atoms have one order by falling weight.
use Rattle.std.proofs.Common.{◌≡◌, ◌⊎◌, ℕ, zero, suc, ◌<◌, inl, inr, List, [], ◌∷◌, length, All, AllPairs, Contains, refl, sym, ap₂, ◌∙◌, subst, arith}
use Rattle.std.specs.Prelude.{slice_index_or}
use Rattle.std.proofs.lemmas.List.Elements.{All-contains}
use Rattle.std.proofs.lemmas.List.Sorted.{Contains-permutation, IsPermutation-sym}
use Rattle.graph_atoms.specs.atom_place.Placing.{ComesFirst, IsFalling, all_atoms}

member_cases : (x : ℕ) (xs : List ℕ) (a k : ℕ) → k < length (x ∷ xs) → slice_index_or (x ∷ xs) k a ≡ a → (x ≡ a) ⊎ Contains xs a
member_cases x xs a zero inside is = inl is
member_cases x xs a (suc k) inside is = inr (k, omega arith, is)

-- of two atoms not both come first
one_way : (weights : List ℕ) (a b : ℕ) → ComesFirst weights a b → ComesFirst weights b a → ⊥
one_way weights a b (inl heavier) (inl lighter) = omega arith
one_way weights a b (inl heavier) (inr lower) = omega (arith, lower.0)
one_way weights a b (inr lower) (inl heavier) = omega (arith, lower.0)
one_way weights a b (inr lower) (inr higher) = omega (arith, lower.1, higher.1)

module _ (weights : List ℕ) where
  -- the first comes before the others, and the others are in order
  pub head_first : (x : ℕ) (xs : List ℕ) → AllPairs (ComesFirst weights) (x ∷ xs) → All (ComesFirst weights x) xs
  head_first x xs falling = λ k d inside. falling 0 (suc k) d (omega arith) (omega arith)

  pub tail_falling : (x : ℕ) (xs : List ℕ) → AllPairs (ComesFirst weights) (x ∷ xs) → AllPairs (ComesFirst weights) xs
  tail_falling x xs falling = λ i j d before inside. falling (suc i) (suc j) d (omega arith) (omega arith)

  -- of two orders with the same atoms the first is the same
  same_first : (x y : ℕ) (xs ys : List ℕ) → AllPairs (ComesFirst weights) (x ∷ xs) → AllPairs (ComesFirst weights) (y ∷ ys) → Contains (y ∷ ys) x → Contains (x ∷ xs) y → x ≡ y
  same_first x y xs ys falling too there here =
      elim (member_cases y ys x there.0 there.1 there.2) [
        | inl same ↦ sym same
        | inr behind ↦ elim (member_cases x xs y here.0 here.1 here.2) [
          | inl same ↦ same
          | inr later ↦
              absurd (one_way weights x y (All-contains (ComesFirst weights x) xs y (head_first x xs falling) later) (All-contains (ComesFirst weights y) ys x (head_first y ys too) behind))
        ]
      ]

  -- and the others are the same atoms
  same_others : (x y : ℕ) (xs ys : List ℕ) → x ≡ y → AllPairs (ComesFirst weights) (x ∷ xs) → ((a : ℕ) → Contains (x ∷ xs) a → Contains (y ∷ ys) a) → (a : ℕ) → Contains xs a → Contains ys a
  same_others x y xs ys same falling into a here =
      let there = into a (suc here.0, omega (arith, here.1), here.2) in
      elim (member_cases y ys a there.0 there.1 there.2) [
        | inl first ↦
            let before : ComesFirst weights x a = All-contains (ComesFirst weights x) xs a (head_first x xs falling) here in
            let itself : ComesFirst weights a a = subst (λ (b : ℕ). ComesFirst weights b a) (same ∙ first) before in
            absurd (one_way weights a a itself itself)
        | inr behind ↦ behind
      ]

  same_order : (xs ys : List ℕ) → AllPairs (ComesFirst weights) xs → AllPairs (ComesFirst weights) ys → ((a : ℕ) → Contains xs a → Contains ys a) → ((a : ℕ) → Contains ys a → Contains xs a) → xs ≡ ys
  same_order [] [] falling too into back = refl
  same_order [] (y ∷ ys) falling too into back = let there = back y (0, omega arith, refl) in absurd (omega (arith, there.1))
  same_order (x ∷ xs) [] falling too into back = let there = into x (0, omega arith, refl) in absurd (omega (arith, there.1))
  same_order (x ∷ xs) (y ∷ ys) falling too into back =
      let same : x ≡ y = same_first x y xs ys falling too (into x (0, omega arith, refl)) (back y (0, omega arith, refl)) in
      ap₂ (λ (z : ℕ) (zs : List ℕ). z ∷ zs) same
      (same_order xs ys (tail_falling x xs falling) (tail_falling y ys too) (same_others x y xs ys same falling into) (same_others y x ys xs (sym same) too back))

  pub falling_orders_are_one : (order other : List ℕ) → IsFalling weights order → IsFalling weights other → order ≡ other
  falling_orders_are_one order other falling too =
      same_order order other falling.falling too.falling (between order other falling too) (between other order too falling)
    where
      between : (xs ys : List ℕ) → IsFalling weights xs → IsFalling weights ys → (a : ℕ) → Contains xs a → Contains ys a
      between xs ys one two a here =
          Contains-permutation (all_atoms weights) ys a two.all (Contains-permutation xs (all_atoms weights) a (IsPermutation-sym (all_atoms weights) xs one.all) here)
