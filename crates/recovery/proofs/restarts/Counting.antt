-- Flags, counted one by one.
use Rattle.std.proofs.Common.{◌≡◌, ℕ, zero, suc, ◌+◌, ◌≤◌, ◌<◌, ◌∙◌, Bool, true, false, List, add-one, ap, arith, if◌then◌else◌, length, refl, sym}
use Rattle.std.specs.Prelude.{slice_index_or}
use Rattle.cluster_laws.specs.cluster_core.Settings.{Setting}
use Rattle.cluster_laws.specs.cluster_model.Clusters.{Cluster}
use Rattle.cluster_laws.specs.cluster_model.Events.{failures_in}
use Rattle.cluster_laws.specs.cluster_model.Totals.{total, total_from}
use Rattle.whole_laws.proofs.cluster_whole.Flows.{total_from-same}

-- 1 where the flag of machine a is up
abbrev pub one_at : List Bool → ℕ → ℕ
one_at flags a = if slice_index_or flags a false then 1 else 0

zero_plus : (n : ℕ) → 0 + n ≡ n
zero_plus n = omega arith

plus_zero : (k : ℕ) → k + 0 ≡ k
plus_zero k = omega arith

plus_next : (k n : ℕ) → suc k + n ≡ k + suc n
plus_next k n = omega arith

added_zero : (x : ℕ) → x + 0 ≡ x
added_zero x = omega arith

grouped : (x y z : ℕ) → x + (y + z) ≡ (x + y) + z
grouped x y z = omega arith

last_added : (k n : ℕ) (f : ℕ → ℕ) → total_from k (suc n) f ≡ total_from k n f + f (k + n)
unfolding total_from
last_added k zero f = added_zero (f k) ∙ ap f (sym (plus_zero k)) ∙ sym (zero_plus (f (k + 0)))
last_added k (suc n) f =
    ap (λ (x : ℕ). f k + x) (last_added (suc k) n f ∙ ap (λ (x : ℕ). total_from (suc k) n f + f x) (plus_next k n))
    ∙ grouped (f k) (total_from (suc k) n f) (f (k + suc n))

none_first : (f : ℕ → ℕ) → total_from 0 0 f ≡ 0
unfolding total_from
none_first f = refl

pub none_counted : (flags : List Bool) → 0 ≡ total 0 (one_at flags)
none_counted flags = sym (none_first (one_at flags))

pub one_counted : (flags : List Bool) (at failed one : ℕ) → failed ≡ total at (one_at flags) → one ≡ one_at flags at → failed + one ≡ total (at + 1) (one_at flags)
one_counted flags at failed one so is =
    ap (λ (x : ℕ). x + one) so ∙ ap (λ (x : ℕ). total at (one_at flags) + x) (is ∙ ap (one_at flags) (sym (zero_plus at)))
    ∙ sym (last_added 0 at (one_at flags)) ∙ ap (λ (n : ℕ). total n (one_at flags)) (sym (add-one at))

pub low_one : (flag : Bool) (one : ℕ) → one ≡ (if flag then 1 else 0) → one ≤ 1
low_one true one is = omega arith
low_one false one is = omega arith

from_zero : (a n : ℕ) → a < 0 + n → a < n
from_zero a n low = omega arith

pub failures_counted : (st : Setting) (c : Cluster) (flags : List Bool) (failed : ℕ) → failed ≡ total (length flags) (one_at flags) → length flags ≡ st.machines →
    ((a : ℕ) → a < st.machines → (c.machine a).failed ≡ slice_index_or flags a false) → failed ≡ failures_in st c
failures_counted st c flags failed so many each =
    so ∙ ap (λ (n : ℕ). total n (one_at flags)) many
    ∙ sym (total_from-same 0 st.machines (one_at flags) (λ a. if (c.machine a).failed then 1 else 0) (λ a low high. ap (λ (flag : Bool). if flag then 1 else 0) (each a (from_zero a st.machines high))))
