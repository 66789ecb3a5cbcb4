-- The lists of vertices and machines along which a scope takes its locks are the model's.
use Rattle.std.proofs.Common.{◌≡◌, ℕ, zero, suc, ◌+◌, ◌-◌, ◌==◌, ◌&&◌, ◌||◌, Bool, true, false, Option, None, Some, if◌then◌else◌, List, ◌∷◌, slice_get, refl, sym, ◌∙◌, ap, ⊎_elim, arith}
use Rattle.std.specs.List.{list_any, range_with_len}
use Rattle.std.proofs.lemmas.Bool.{cases_Bool}
use Rattle.graph_core.specs.DataGraph.{size}
use Rattle.cluster_laws.specs.cluster_core.Ranges.{all_passing, first_passing}
use Rattle.cluster_laws.specs.cluster_core.Scopes.{is_found, machines_from, takes_part}
use Rattle.cluster_laws.specs.cluster_core.Settings.{Setting, is_in_scope}
use Rattle.full_cluster.specs.Orders.{IsLockOrder}
use Rattle.full_cluster.specs.Inner.Ways.{has_own_of, is_own_of, passing}
use Rattle.full_cluster.proofs.WayLemmas.{passing-alike}

-- ---- ranges

first_at : (test : ℕ → Bool) (k many : ℕ) → first_passing test k many ≡ slice_get (passing test k many) 0
unfolding first_passing
first_at test k zero = refl
first_at test k (suc many) =
    let one : k + 1 ≡ suc k = omega arith in
    ⊎_elim
    (λ (yes : test k ≡ true). rw yes refl)
    (λ (passed : test k ≡ false). rw passed (first_at test (suc k) many ∙ ap (λ (j : ℕ). slice_get (passing test j many) 0) (sym one)))
    (cases_Bool (test k))

none_there : (x : ℕ) → None ≡ Some x → ⊥
none_there x is = cc

-- behind the number at a place comes the next one that passes
next_at : (test : ℕ → Bool) (k many i x : ℕ) → slice_get (passing test k many) i ≡ Some x → first_passing test (suc x) (k + many - suc x) ≡ slice_get (passing test k many) (suc i)
next_at test k zero i x is = absurd (none_there x is)
next_at test k (suc many) zero x is = ⊎_elim
    (λ (yes : test k ≡ true).
    let first : Some k ≡ Some x = rw yes at is in
    let at : k ≡ x = cc in
    let left : k + suc many - suc x ≡ many = omega arith in
    let one : suc x ≡ k + 1 = omega arith in
    rw (yes, left, one) (first_at test (k + 1) many))
    (λ (passed : test k ≡ false).
    let later : slice_get (passing test (k + 1) many) 0 ≡ Some x = rw passed at is in
    let left : k + suc many - suc x ≡ k + 1 + many - suc x = omega arith in
    rw (passed, left) (next_at test (k + 1) many 0 x later))
    (cases_Bool (test k))
next_at test k (suc many) (suc i) x is = ⊎_elim
    (λ (yes : test k ≡ true).
    let later : slice_get (passing test (k + 1) many) i ≡ Some x = rw yes at is in
    let left : k + suc many - suc x ≡ k + 1 + many - suc x = omega arith in
    rw (yes, left) (next_at test (k + 1) many i x later))
    (λ (passed : test k ≡ false).
    let later : slice_get (passing test (k + 1) many) (suc i) ≡ Some x = rw passed at is in
    let left : k + suc many - suc x ≡ k + 1 + many - suc x = omega arith in
    rw (passed, left) (next_at test (k + 1) many (suc i) x later))
    (cases_Bool (test k))

all_at : (test : ℕ → Bool) (k many : ℕ) → passing test k many ≡ all_passing test k many
unfolding all_passing
all_at test k zero = refl
all_at test k (suc many) =
    let one : k + 1 ≡ suc k = omega arith in
    ap (λ (ns : List ℕ). if test k then k ∷ ns else ns) (ap (λ (j : ℕ). passing test j many) one ∙ all_at test (suc k) many)

found_if : (b : Bool) (k : ℕ) (o : Option ℕ) → is_found (if b then Some k else o) ≡ (b || is_found o)
found_if true k o = refl
found_if false k o = refl

found_at : (test : ℕ → Bool) (k many : ℕ) → list_any test (range_with_len k many) ≡ is_found (first_passing test k many)
unfolding first_passing
found_at test k zero = refl
found_at test k (suc many) =
    let one : k + 1 ≡ suc k = omega arith in
    ap (λ (b : Bool). test k || b) (ap (λ (j : ℕ). list_any test (range_with_len j many)) one ∙ found_at test (suc k) many)
    ∙ sym (found_if (test k) k (first_passing test (suc k) many))

-- ---- the model's lists

pub order_is : (st : Setting) (v a : ℕ) (numbers : List ℕ) → numbers ≡ passing (is_own_of st.graph st.owner v a) 0 (size st.graph) → IsLockOrder st v a numbers
order_is st v a numbers are =
    let test : ℕ → Bool = λ x. is_in_scope st v x && st.owner x == a in
    let all : size st.graph - 0 ≡ size st.graph = omega arith in
    record {
      first = ap (first_passing test 0) all ∙ first_at test 0 (size st.graph) ∙ ap (λ (ns : List ℕ). slice_get ns 0) (sym are);
      next = λ i x at.
          let left : size st.graph - suc x ≡ 0 + size st.graph - suc x = omega arith in
          ap (first_passing test (suc x)) left
          ∙ next_at test 0 (size st.graph) i x (ap (λ (ns : List ℕ). slice_get ns i) (sym are) ∙ at)
          ∙ ap (λ (ns : List ℕ). slice_get ns (suc i)) (sym are);
    }

pub takes_is : (st : Setting) (v a : ℕ) → has_own_of st.graph st.owner v a ≡ takes_part st v a
takes_is st v a =
    let all : size st.graph ≡ size st.graph - 0 = omega arith in
    ap (λ (n : ℕ). list_any (is_own_of st.graph st.owner v a) (range_with_len 0 n)) all ∙ found_at (is_own_of st.graph st.owner v a) 0 (size st.graph - 0)

pub machines_are : (st : Setting) (v : ℕ) (numbers : List ℕ) → numbers ≡ passing (has_own_of st.graph st.owner v) 0 st.machines → numbers ≡ machines_from st v 0
machines_are st v numbers are =
    let all : st.machines ≡ st.machines - 0 = omega arith in
    are
    ∙ passing-alike (has_own_of st.graph st.owner v) (takes_part st v) 0 st.machines (λ c low high. takes_is st v c)
    ∙ ap (passing (takes_part st v) 0) all ∙ all_at (takes_part st v) 0 (st.machines - 0)
