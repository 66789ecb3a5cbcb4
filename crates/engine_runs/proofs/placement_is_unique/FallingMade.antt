-- Atoms of any weights have an order by falling weight.
use Rattle.std.proofs.Common.{◌≢◌, ℕ, suc, inl, inr, List, [], ◌∷◌, length, All, AllPairs, sym, arith}
use Rattle.std.specs.List.Sorted.{IsPermutation}
use Rattle.std.proofs.lemmas.Bool.{cases_order}
use Rattle.std.proofs.lemmas.List.Elements.{All-cons, All-nil}
use Rattle.std.proofs.lemmas.List.FromFn.{get_or-range_with_len, length-range_with_len}
use Rattle.std.proofs.lemmas.List.Kept.{AllPairs-cons}
use Rattle.std.proofs.lemmas.List.Sorted.{All-permutation, IsPermutation-cons, IsPermutation-middle, IsPermutation-refl, IsPermutation-trans}
use Rattle.std.specs.Prelude.{◌⊎◌, slice_index}
use Rattle.graph_atoms.specs.atom_place.Placing.{ComesFirst, IsFalling, all_atoms}
use Rattle.engine_runs.proofs.placement_is_unique.FallingOrders.{head_first, tail_falling}

-- of two atoms one comes first
one_first : (weights : List ℕ) (a b : ℕ) → a ≢ b → ComesFirst weights a b ⊎ ComesFirst weights b a
one_first weights a b apart = elim (cases_order (slice_index weights a) (slice_index weights b)) [
  | inl same ↦ elim (cases_order a b) [
    | inl one ↦ absurd (apart one)
    | inr (inl lower) ↦ inl (inr (same, lower))
    | inr (inr higher) ↦ inr (inr (sym same, higher))
  ]
  | inr (inl lighter) ↦ inr (inl lighter)
  | inr (inr heavier) ↦ inl (inl heavier)
]

-- what comes before an atom comes before what that comes before
comes_before : (weights : List ℕ) (a b c : ℕ) → ComesFirst weights a b → ComesFirst weights b c → ComesFirst weights a c
comes_before weights a b c (inl heavier) (inl lighter) = inl (omega arith)
comes_before weights a b c (inl heavier) (inr lower) = inl (omega (arith, lower.0))
comes_before weights a b c (inr lower) (inl heavier) = inl (omega (arith, lower.0))
comes_before weights a b c (inr lower) (inr higher) = inr (omega (arith, lower.0, higher.0), omega (arith, lower.1, higher.1))

-- these atoms stand in this order, each in its turn
record AreFalling (weights atoms order : List ℕ) : Type 0 where
  all : IsPermutation atoms order
  falling : AllPairs (ComesFirst weights) order

none_before : (R : ℕ → ℕ → Type 0) → AllPairs R []
none_before R = λ i j d before inside. absurd (omega (arith, before, inside))

module _ (weights : List ℕ) where
  -- an atom that is none of them takes its place among atoms in order
  put_in : (x : ℕ) (xs : List ℕ) → AllPairs (ComesFirst weights) xs → All (λ b. x ≢ b) xs → (order : List ℕ) × AreFalling weights (x ∷ xs) order
  put_in x [] falling apart =
      (x ∷ [], record { all = IsPermutation-refl (x ∷ []); falling = AllPairs-cons (ComesFirst weights) x [] (All-nil (ComesFirst weights x)) falling })
  put_in x (b ∷ xs) falling apart =
      let rest : AllPairs (ComesFirst weights) xs = tail_falling weights b xs falling in
      let behind : All (ComesFirst weights b) xs = head_first weights b xs falling in
      elim (one_first weights x b (apart 0 x (omega arith))) [
        | inl first ↦ (
          x ∷ b ∷ xs,
          record {
            all = IsPermutation-refl (x ∷ b ∷ xs);
            falling = AllPairs-cons (ComesFirst weights) x (b ∷ xs)
                (All-cons (ComesFirst weights x) b xs first (λ k d inside. comes_before weights x b _ first (behind k d inside))) falling;
          },
        )
        | inr later ↦
            let put : (order : List ℕ) × AreFalling weights (x ∷ xs) order = put_in x xs rest (λ k d inside. apart (suc k) d (omega arith)) in
            let all_behind : All (ComesFirst weights b) put.0 =
            All-permutation (ComesFirst weights b) (x ∷ xs) put.0 put.1.all (All-cons (ComesFirst weights b) x xs later behind) in (
              b ∷ put.0,
              record {
                all = IsPermutation-trans (x ∷ b ∷ xs) (b ∷ x ∷ xs) (b ∷ put.0) (IsPermutation-middle (x ∷ []) b xs) (IsPermutation-cons b (x ∷ xs) put.0 put.1.all);
                falling = AllPairs-cons (ComesFirst weights) b put.0 all_behind put.1.falling;
              },
            )
      ]

  -- atoms of which no two are equal have an order
  in_order : (atoms : List ℕ) → AllPairs (λ a b. a ≢ b) atoms → (order : List ℕ) × AreFalling weights atoms order
  in_order [] apart = ([], record { all = IsPermutation-refl []; falling = none_before (ComesFirst weights) })
  in_order (x ∷ atoms) apart =
      let rest : (order : List ℕ) × AreFalling weights atoms order = in_order atoms (λ i j d before inside. apart (suc i) (suc j) d (omega arith) (omega arith)) in
      let others : All (λ b. x ≢ b) rest.0 = All-permutation (λ b. x ≢ b) atoms rest.0 rest.1.all (λ k d inside. apart 0 (suc k) d (omega arith) (omega arith)) in
      let put : (order : List ℕ) × AreFalling weights (x ∷ rest.0) order = put_in x rest.0 rest.1.falling others in (
        put.0,
        record {
          all = IsPermutation-trans (x ∷ atoms) (x ∷ rest.0) put.0 (IsPermutation-cons x atoms rest.0 rest.1.all) put.1.all;
          falling = put.1.falling;
        },
      )

  pub falling_order : (order : List ℕ) × IsFalling weights order
  falling_order =
      let n : ℕ = length weights in
      let apart : AllPairs (λ a b. a ≢ b) (all_atoms weights) = λ i j d before inside. λ e.
      let low = length-range_with_len 0 n in
      let at_i = get_or-range_with_len 0 n i d (omega arith) in
      let at_j = get_or-range_with_len 0 n j d (omega arith) in
      omega (arith, e, at_i, at_j) in
      let made = in_order (all_atoms weights) apart in
      (made.0, record { all = made.1.all; falling = made.1.falling })
