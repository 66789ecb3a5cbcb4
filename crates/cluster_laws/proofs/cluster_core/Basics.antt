-- Scopes apart, functions changed at one place, and ranges.
use Rattle.std.proofs.Common.{◌≡◌, ◌≢◌, ◌⊎◌, ℕ, zero, suc, ◌+◌, ◌-◌, ◌<◌, ◌≤◌, ◌==◌, Bool, true, false, None, Some, List, [], ◌∷◌, refl, sym, ◌∙◌, ap, subst, ⊎_elim, inl, inr, arith}
use Rattle.std.proofs.lemmas.Bool.{cases_eq, cases_Bool, eq-eqb, eqb-true, ne_eqb, and_parts, both_ways, false_from_ne_true}
use Rattle.gl_base.specs.declared.numbers.MachineNo.{MachineNo}
use Rattle.gl_base.specs.declared.scopes.ScopeId.{ScopeId}
use Rattle.cluster_laws.specs.cluster_core.Ranges.{first_passing, all_passing, set_at}
use Rattle.cluster_laws.specs.cluster_core.Scopes.{is_scope, set_for}

-- ---- two truth values

pub same_truth : (a b : Bool) → (a ≡ true → b ≡ true) → (b ≡ true → a ≡ true) → a ≡ b
same_truth true b to from = sym (to refl)
same_truth false true to from = from refl
same_truth false false to from = refl

-- ---- functions changed at one place

pub set_at-same : {X : Type 0} (f : ℕ → X) (k : ℕ) (x : X) → set_at f k x k ≡ x
set_at-same f k x = rw (eq-eqb k k refl) refl

pub set_at-other : {X : Type 0} (f : ℕ → X) (k : ℕ) (x : X) (i : ℕ) → i ≢ k → set_at f k x i ≡ f i
set_at-other f k x i other = rw (ne_eqb i k other) refl

-- what holds of x at k and of f at each other place
pub set_at-holds : {X : Type 0} (P : ℕ → X → Type 0) (f : ℕ → X) (k : ℕ) (x : X) (i : ℕ) → P k x → (i ≢ k → P i (f i)) → P i (set_at f k x i)
set_at-holds P f k x i here there =
    ⊎_elim
    (λ (at : i ≡ k). subst (λ (j : ℕ). P j (set_at f k x j)) (sym at) (subst (P k) (sym (set_at-same f k x)) here))
    (λ (off : i ≢ k). subst (P i) (sym (set_at-other f k x i off)) (there off))
    (cases_eq i k)

pub set_at-cases : {X : Type 0} (P : X → Type 0) (f : ℕ → X) (k : ℕ) (x : X) (i : ℕ) → (i ≡ k → P x) → (i ≢ k → P (f i)) → P (set_at f k x i)
set_at-cases P f k x i here there =
    ⊎_elim
    (λ (at : i ≡ k). subst P (sym (ap (λ (j : ℕ). set_at f k x j) at ∙ set_at-same f k x)) (here at))
    (λ (off : i ≢ k). subst P (sym (set_at-other f k x i off)) (there off))
    (cases_eq i k)

-- what is read at each place, where it is the same of x as of f at k, or of another value there
pub set_at-kept : {X Y : Type 0} (read : X → Y) (f : ℕ → X) (k : ℕ) (x : X) → read x ≡ read (f k) → (i : ℕ) → read (set_at f k x i) ≡ read (f i)
set_at-kept read f k x same i =
    set_at-cases (λ y. read y ≡ read (f i)) f k x i (λ at. same ∙ sym (ap (λ (j : ℕ). read (f j)) at)) (λ off. refl)

pub set_at-both : {X Y : Type 0} (read : X → Y) (f : ℕ → X) (k : ℕ) (x y : X) → read x ≡ read y → (i : ℕ) → read (set_at f k x i) ≡ read (set_at f k y i)
set_at-both read f k x y same i =
    ⊎_elim
    (λ (at : i ≡ k). rw (eq-eqb i k at) same)
    (λ (off : i ≢ k). rw (ne_eqb i k off) refl)
    (cases_eq i k)

pub set_at-here : {X Y : Type 0} (read : X → Y) (f : ℕ → X) (k : ℕ) (x : X) (i : ℕ) → i ≡ k → read (set_at f k x i) ≡ read x
set_at-here read f k x i at = rw (eq-eqb i k at) refl

pub set_at-there : {X Y : Type 0} (read : X → Y) (f : ℕ → X) (k : ℕ) (x : X) (i : ℕ) → i ≢ k → read (set_at f k x i) ≡ read (f i)
set_at-there read f k x i off = rw (ne_eqb i k off) refl

-- ---- scopes

pub same_scope : (s : ScopeId) → is_scope s s ≡ true
same_scope s = rw (eq-eqb s.home.0 s.home.0 refl, eq-eqb s.serial s.serial refl) refl

machines_same : (a b : MachineNo) → a.0 ≡ b.0 → a ≡ b
machines_same a b same = λ i. record { 0 = same i }

fields_same : (s t : ScopeId) → s.home ≡ t.home → s.serial ≡ t.serial → s ≡ t
fields_same s t homes serials = λ i. record { home = homes i; serial = serials i }

pub scopes_same : (s t : ScopeId) → is_scope s t ≡ true → s ≡ t
scopes_same s t is =
    let both = and_parts (s.home.0 == t.home.0) (s.serial == t.serial) is in
    fields_same s t (machines_same s.home t.home (eqb-true s.home.0 t.home.0 both.0)) (eqb-true s.serial t.serial both.1)

pub scope_cases : (s t : ScopeId) → (s ≡ t) ⊎ (is_scope s t ≡ false)
scope_cases s t =
    ⊎_elim
    (λ (is : is_scope s t ≡ true). inl (scopes_same s t is))
    (λ (not_is : is_scope s t ≡ false). inr not_is)
    (cases_Bool (is_scope s t))

pub scopes_apart : (s t : ScopeId) → is_scope s t ≡ false → s ≢ t
scopes_apart s t apart same = both_ways (is_scope s t) apart (subst (λ (r : ScopeId). is_scope s r ≡ true) same (same_scope s))

pub apart_turned : (s t : ScopeId) → is_scope s t ≡ false → is_scope t s ≡ false
apart_turned s t apart = false_from_ne_true (is_scope t s) (λ is. scopes_apart s t apart (sym (scopes_same t s is)))

pub set_for-same : {X : Type 0} (f : ScopeId → X) (s : ScopeId) (x : X) → set_for f s x s ≡ x
set_for-same f s x = rw (same_scope s) refl

pub set_for-other : {X : Type 0} (f : ScopeId → X) (s : ScopeId) (x : X) (t : ScopeId) → is_scope t s ≡ false → set_for f s x t ≡ f t
set_for-other f s x t apart = rw apart refl

pub set_for-holds : {X : Type 0} (P : ScopeId → X → Type 0) (f : ScopeId → X) (s : ScopeId) (x : X) → P s x → ((t : ScopeId) → is_scope t s ≡ false → P t (f t)) → (t : ScopeId) → P t (set_for f s x t)
set_for-holds P f s x here there t =
    ⊎_elim
    (λ (is : t ≡ s). subst (λ (r : ScopeId). P r (set_for f s x r)) (sym is) (subst (P s) (sym (set_for-same f s x)) here))
    (λ (apart : is_scope t s ≡ false). subst (P t) (sym (set_for-other f s x t apart)) (there t apart))
    (scope_cases t s)

-- ---- ranges

pub first_passing-some : (test : ℕ → Bool) (k many x : ℕ) → first_passing test k many ≡ Some x → (k ≤ x) × (x < k + many) × (test x ≡ true) × ((y : ℕ) → k ≤ y → y < x → test y ≡ false)
unfolding first_passing
first_passing-some test k zero x is = cc
first_passing-some test k (suc many) x is =
    ⊎_elim
    (λ (yes : test k ≡ true).
    let some : Some k ≡ Some x = rw yes at is in
    let at : k ≡ x = cc in
    (omega arith, omega arith, subst (λ (j : ℕ). test j ≡ true) at yes, λ y low high. absurd (omega arith)))
    (λ (passed : test k ≡ false).
    let later : first_passing test (suc k) many ≡ Some x = rw passed at is in
    let h = first_passing-some test (suc k) many x later in (
      omega (arith, h.0),
      omega (arith, h.1),
      h.2,
      λ y low high. ⊎_elim
          (λ (at : y ≡ k). subst (λ (j : ℕ). test j ≡ false) (sym at) passed)
          (λ (off : y ≢ k). h.3 y (omega arith) high)
          (cases_eq y k),
    ))
    (cases_Bool (test k))

pub first_passing-none : (test : ℕ → Bool) (k many : ℕ) → first_passing test k many ≡ None → (y : ℕ) → k ≤ y → y < k + many → test y ≡ false
unfolding first_passing
first_passing-none test k zero is y low high = absurd (omega arith)
first_passing-none test k (suc many) is y low high =
    ⊎_elim
    (λ (passes : test k ≡ true).
    let some : Some k ≡ None = rw passes at is in
    cc)
    (λ (passed : test k ≡ false).
    let later : first_passing test (suc k) many ≡ None = rw passed at is in
    ⊎_elim
    (λ (at : y ≡ k). subst (λ (j : ℕ). test j ≡ false) (sym at) passed)
    (λ (off : y ≢ k). first_passing-none test (suc k) many later y (omega arith) (omega arith))
    (cases_eq y k))
    (cases_Bool (test k))

pub all_passing-cons : (test : ℕ → Bool) (k many b : ℕ) (rest : List ℕ) → all_passing test k many ≡ b ∷ rest → (k ≤ b) × (b < k + many) × (test b ≡ true) × ((c : ℕ) → k ≤ c → c < b → test c ≡ false) × (rest ≡ all_passing test (suc b) (k + many - suc b))
unfolding all_passing
all_passing-cons test k zero b rest is = cc
all_passing-cons test k (suc many) b rest is =
    ⊎_elim
    (λ (passes : test k ≡ true).
    let some : k ∷ all_passing test (suc k) many ≡ b ∷ rest = rw passes at is in
    let at : k ≡ b = cc in
    let tail : all_passing test (suc k) many ≡ rest = cc in
    let n : k + suc many - suc b ≡ many = omega arith in (
      omega arith,
      omega arith,
      subst (λ (j : ℕ). test j ≡ true) at passes,
      (λ c low high. absurd (omega arith)),
      rw (n, ← at) (sym tail),
    ))
    (λ (passed : test k ≡ false).
    let later : all_passing test (suc k) many ≡ b ∷ rest = rw passed at is in
    let h = all_passing-cons test (suc k) many b rest later in
    let n : suc k + many - suc b ≡ k + suc many - suc b = omega arith in (
      omega (arith, h.0),
      omega (arith, h.1),
      h.2,
      (λ c low high. ⊎_elim
          (λ (at : c ≡ k). subst (λ (j : ℕ). test j ≡ false) (sym at) passed)
          (λ (off : c ≢ k). h.3 c (omega arith) high)
          (cases_eq c k)),
      subst (λ (m : ℕ). rest ≡ all_passing test (suc b) m) n h.4,
    ))
    (cases_Bool (test k))

pub all_passing-nil : (test : ℕ → Bool) (k many : ℕ) → all_passing test k many ≡ [] → (c : ℕ) → k ≤ c → c < k + many → test c ≡ false
unfolding all_passing
all_passing-nil test k zero is c low high = absurd (omega arith)
all_passing-nil test k (suc many) is c low high =
    ⊎_elim
    (λ (passes : test k ≡ true).
    let some : k ∷ all_passing test (suc k) many ≡ [] = rw passes at is in
    cc)
    (λ (passed : test k ≡ false).
    let later : all_passing test (suc k) many ≡ [] = rw passed at is in
    ⊎_elim
    (λ (at : c ≡ k). subst (λ (j : ℕ). test j ≡ false) (sym at) passed)
    (λ (off : c ≢ k). all_passing-nil test (suc k) many later c (omega arith) (omega arith))
    (cases_eq c k))
    (cases_Bool (test k))
