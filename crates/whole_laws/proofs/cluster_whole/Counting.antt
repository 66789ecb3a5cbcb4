-- Sums of which one term changes.
use Rattle.std.proofs.Common.{◌≡◌, ◌≢◌, ℕ, zero, suc, ◌+◌, ◌<◌, ◌≤◌, refl, sym, ◌∙◌, ap, subst, ⊎_elim, lt-suc_self, lt_trans, ne_of_lt, arith}
use Rattle.std.proofs.lemmas.Bool.{cases_eq, cases_lt}
use Rattle.whole_laws.specs.cluster_whole.Windows.{sum_below}

none_below : (i : ℕ) → i < 0 → ⊥
none_below i low = omega arith

meets : (i n : ℕ) → i < suc n → n ≤ i → i ≡ n
meets i n low high = omega arith

below_suc : (i n : ℕ) → i < suc n → i ≢ n → i < n
below_suc i n low other =
    ⊎_elim (λ (less : i < n). less) (λ (high : n ≤ i). absurd (other (meets i n low high))) (cases_lt i n)

pub sum_below-same : (f g : ℕ → ℕ) (n : ℕ) → ((k : ℕ) → k < n → g k ≡ f k) → sum_below g n ≡ sum_below f n
sum_below-same f g zero same = refl
sum_below-same f g (suc n) same =
    ap (λ (x : ℕ). x + sum_below g n) (same n (lt-suc_self n)) ∙ ap (λ (x : ℕ). f n + x) (sum_below-same f g n (λ k low. same k (lt_trans low (lt-suc_self n))))

swap_first : (a b c d e : ℕ) → b + d ≡ c + e → a + b + d ≡ a + c + e
swap_first a b c d e is = omega arith

last_changed : (f g s : ℕ) → g + s + f ≡ f + s + g
last_changed f g s = omega arith

pub sum_below-changed : (f g : ℕ → ℕ) (n i : ℕ) → i < n → ((k : ℕ) → k < n → k ≢ i → g k ≡ f k) → sum_below g n + f i ≡ sum_below f n + g i
sum_below-changed f g zero i low same = absurd (none_below i low)
sum_below-changed f g (suc n) i low same =
    ⊎_elim
    (λ (at : i ≡ n).
    let rest : sum_below g n ≡ sum_below f n = sum_below-same f g n (λ k less. same k (lt_trans less (lt-suc_self n)) (λ is. ne_of_lt less (is ∙ at))) in
    subst (λ (j : ℕ). g n + sum_below g n + f j ≡ f n + sum_below f n + g j) (sym at)
    (ap (λ (x : ℕ). g n + x + f n) rest ∙ last_changed (f n) (g n) (sum_below f n)))
    (λ (off : i ≢ n).
    let less : i < n = below_suc i n low off in
    let rest = sum_below-changed f g n i less (λ k below other. same k (lt_trans below (lt-suc_self n)) other) in
    ap (λ (x : ℕ). x + sum_below g n + f i) (same n (lt-suc_self n) (λ is. off (sym is))) ∙ swap_first (f n) (sum_below g n) (sum_below f n) (f i) (g i) rest)
    (cases_eq i n)

grows_by : (a b c : ℕ) → a ≤ c → a ≤ b + c
grows_by a b c low = omega arith

first_of : (a b : ℕ) → a ≤ a + b
first_of a b = omega arith

pub sum_below-term : (f : ℕ → ℕ) (n i : ℕ) → i < n → f i ≤ sum_below f n
sum_below-term f zero i low = absurd (none_below i low)
sum_below-term f (suc n) i low =
    ⊎_elim
    (λ (at : i ≡ n). subst (λ (j : ℕ). f j ≤ f n + sum_below f n) (sym at) (first_of (f n) (sum_below f n)))
    (λ (off : i ≢ n). grows_by (f i) (f n) (sum_below f n) (sum_below-term f n i (below_suc i n low off)))
    (cases_eq i n)
