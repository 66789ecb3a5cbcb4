-- Of so many numbers, each is hit where no two go to one.
use Rattle.std.proofs.Common.{◌≡◌, ◌≢◌, ◌<◌, ◌==◌, ℕ, zero, suc, ◌∙◌, Bool, if◌then◌else◌, ap, sym, inl, inr, arith}
use Rattle.std.proofs.lemmas.Bool.{cases_eq, eq-eqb, ne_eqb}

-- f, with what it gives at m in the place of m
abbrev around : (ℕ → ℕ) → ℕ → ℕ → ℕ
around f m i = if f i == m then f m else f i

around_at : (f : ℕ → ℕ) (m i : ℕ) → f i ≡ m → around f m i ≡ f m
around_at f m i at = ap (λ (b : Bool). if b then f m else f i) (eq-eqb (f i) m at)

around_off : (f : ℕ → ℕ) (m i : ℕ) → f i ≢ m → around f m i ≡ f i
around_off f m i off = ap (λ (b : Bool). if b then f m else f i) (ne_eqb (f i) m off)

-- where f takes the numbers below n to such numbers, and no two to one, it gives each of them
pub onto : (n : ℕ) (f : ℕ → ℕ) → ((i : ℕ) → i < n → f i < n) → ((i j : ℕ) → i < n → j < n → f i ≡ f j → i ≡ j) → (k : ℕ) → k < n → (i : ℕ) × (i < n) × (f i ≡ k)
onto zero f low apart k below = absurd (omega arith)
onto (suc m) f low apart k below = elim (cases_eq (f m) k) [
  | inl last ↦ (m, omega arith, last)
  | inr other ↦ elim (cases_eq k m) [
    | inl top ↦
        let found = onto m (around f m) around_low around_apart (f m) (last_low (λ e. other (e ∙ sym top))) in
        elim (cases_eq (f found.0) m) [
          | inl at ↦ (found.0, omega (arith, found.1), at ∙ sym top)
          | inr off ↦ absurd (not_last found.0 found.1 (sym (around_off f m found.0 off) ∙ found.2))
        ]
    | inr inside ↦
        let found = onto m (around f m) around_low around_apart k (omega (arith, below, inside)) in
        elim (cases_eq (f found.0) m) [
          | inl at ↦ absurd (other (sym (around_at f m found.0 at) ∙ found.2))
          | inr off ↦ (found.0, omega (arith, found.1), sym (around_off f m found.0 off) ∙ found.2)
        ]
  ]
]
  where
    not_last : (i : ℕ) → i < m → f i ≡ f m → ⊥
    not_last i inside same =
        let is = apart i m (omega arith) (omega arith) same in
        omega arith

    last_low : f m ≢ m → f m < m
    last_low off =
        let high = low m (omega arith) in
        omega arith

    around_low : (i : ℕ) → i < m → around f m i < m
    around_low i inside = elim (cases_eq (f i) m) [
      | inl at ↦
          let is = around_at f m i at in
          let last = last_low (λ e. not_last i inside (at ∙ sym e)) in
          omega (arith, is, last)
      | inr off ↦
          let is = around_off f m i off in
          let high = low i (omega arith) in
          omega (arith, is, high, off)
    ]

    around_apart : (i j : ℕ) → i < m → j < m → around f m i ≡ around f m j → i ≡ j
    around_apart i j first second same = elim (cases_eq (f i) m) [
      | inl at ↦ elim (cases_eq (f j) m) [
        | inl also ↦ apart i j (omega arith) (omega arith) (at ∙ sym also)
        | inr off ↦ absurd (not_last j second (sym (around_off f m j off) ∙ sym same ∙ around_at f m i at))
      ]
      | inr off ↦ elim (cases_eq (f j) m) [
        | inl also ↦ absurd (not_last i first (sym (around_off f m i off) ∙ same ∙ around_at f m j also))
        | inr too ↦ apart i j (omega arith) (omega arith) (sym (around_off f m i off) ∙ same ∙ around_off f m j too)
      ]
    ]
