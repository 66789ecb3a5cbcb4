-- Sums over the machines of which one term is less, and a search among machines.
use Rattle.std.proofs.Common.{◌≡◌, ◌≢◌, ◌⊎◌, ℕ, zero, suc, ◌+◌, ◌<◌, ◌≤◌, sym, subst, ⊎_elim, inl, inr, le_antisymm, le_refl, arith}
use Rattle.std.proofs.lemmas.Bool.{cases_eq, cases_lt}
use Rattle.cluster_laws.specs.cluster_model.Totals.{total_from}
use Rattle.whole_laws.proofs.cluster_whole.Flows.{total_from-below}

start_low : (k many : ℕ) → k < k + suc many
start_low k many = omega arith

next_low : (k a : ℕ) → suc k ≤ a → k ≤ a
next_low k a low = omega arith

next_high : (k many a : ℕ) → a < suc k + many → a < k + suc many
next_high k many a low = omega arith

not_between : (k a : ℕ) → k ≤ a → a < k + 0 → ⊥
not_between k a low high = omega arith

next_back : (k many a : ℕ) → a < k + suc many → a < suc k + many
next_back k many a high = omega arith

above : (k a : ℕ) → k ≤ a → a ≢ k → suc k ≤ a
above k a low off = ⊎_elim (λ (less : k < a). less) (λ (high : a ≤ k). absurd (off (le_antisymm high low))) (cases_lt k a)

less_first : (f g fs gs : ℕ) → f < g → fs ≤ gs → f + fs < g + gs
less_first f g fs gs one rest = omega arith

less_rest : (f g fs gs : ℕ) → f ≤ g → fs < gs → f + fs < g + gs
less_rest f g fs gs one rest = omega arith

pub total_from-less : (k many : ℕ) (f g : ℕ → ℕ) (a : ℕ) → k ≤ a → a < k + many → ((b : ℕ) → k ≤ b → b < k + many → f b ≤ g b) → f a < g a → total_from k many f < total_from k many g
unfolding total_from
total_from-less k zero f g a low high all less = absurd (not_between k a low high)
total_from-less k (suc many) f g a low high all less =
    ⊎_elim
    (λ (at : a ≡ k).
    less_first (f k) (g k) (total_from (suc k) many f) (total_from (suc k) many g) (subst (λ (j : ℕ). f j < g j) at less)
    (total_from-below (suc k) many f g (λ b from to. all b (next_low k b from) (next_high k many b to))))
    (λ (off : a ≢ k).
    less_rest (f k) (g k) (total_from (suc k) many f) (total_from (suc k) many g) (all k (le_refl k) (start_low k many))
    (total_from-less (suc k) many f g a (above k a low off) (next_back k many a high) (λ b from to. all b (next_low k b from) (next_high k many b to)) less))
    (cases_eq a k)

-- one of two holds of each; then the first holds of all, or the second of one
pub all_or_some : (k many : ℕ) (P Q : ℕ → Type 0) → ((a : ℕ) → k ≤ a → a < k + many → P a ⊎ Q a) → ((a : ℕ) → k ≤ a → a < k + many → P a) ⊎ ((a : ℕ) × (a < k + many) × Q a)
all_or_some k zero P Q each = inl (λ a low high. absurd (not_between k a low high))
all_or_some k (suc many) P Q each =
    ⊎_elim
    (λ (one : P k).
    ⊎_elim
    (λ (rest : (a : ℕ) → suc k ≤ a → a < suc k + many → P a).
    inl (λ a low high. ⊎_elim (λ (at : a ≡ k). subst P (sym at) one) (λ (off : a ≢ k). rest a (above k a low off) (next_back k many a high)) (cases_eq a k)))
    (λ (some : (a : ℕ) × (a < suc k + many) × Q a). inr (some.0, next_high k many some.0 some.1, some.2))
    (all_or_some (suc k) many P Q (λ a low high. each a (next_low k a low) (next_high k many a high))))
    (λ (one : Q k). inr (k, start_low k many, one))
    (each k (le_refl k) (start_low k many))
