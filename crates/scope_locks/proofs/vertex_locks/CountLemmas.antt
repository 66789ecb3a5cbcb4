-- How many locks somebody claims.
use Rattle.std.proofs.Common.{◌≡◌, ℕ, ◌+◌, ◌-◌, ◌<◌, ◌≤◌, Bool, true, false, Option, None, Some, List, [], ◌∷◌, length, nat_lt, slice_index_or, refl, sym, ◌∙◌, ap, subst, ⊎_elim, arith}
use Rattle.std.specs.Int.{from_bool}
use Rattle.std.proofs.lemmas.Bool.{cases_lt, lt-ltb, le-ltb}
use Rattle.std.proofs.lemmas.List.{length-map, get_or_default, get_or_past}
use Rattle.std.proofs.lemmas.Option.{none-some}
use Rattle.std.proofs.lemmas.List.Sums.{sum_by-set, sum_by-le, get_or-le-sum_by}
use Rattle.gl_base.specs.declared.scopes.Claim.{Claim}
use Rattle.gl_base.specs.declared.scopes.ScopeId.{ScopeId}
use Rattle.scope_locks.specs.vertex_locks.Inner.KeptLocks.{SameClaims, claimed_once, counted_if}
use Rattle.scope_locks.specs.vertex_locks.Inner.KeptTables.{count_claimed}
use Rattle.gl_base.proofs.scope_lists.SameScope.{same_scope}
use Rattle.scope_locks.specs.vertex_locks.Locks.{LockView, mode_of}
use Rattle.scope_locks.specs.vertex_locks.Tables.{lock_at, lock_or, is_owned, lock_there, table_of, IsUnclaimed}
use Rattle.scope_locks.proofs.vertex_locks.TableLemmas.{IsWritten, owned_inside, with_lock}

-- what a truth is as a number
pub number_of : (b : Bool) → from_bool b ≡ counted_if b
number_of true = refl
number_of false = refl

-- ---- one lock of a table is written

of_lock : Option LockView → ℕ
of_lock o = claimed_once (lock_or o)

count_written : (table : List (Option LockView)) (x : ℕ) (l : LockView) → is_owned table x ≡ true → count_claimed (with_lock table x l) + claimed_once (lock_at table x) ≡ count_claimed table + claimed_once l
unfolding of_lock
count_written table x l owned = sum_by-set of_lock table x (Some l) None (owned_inside table x owned)

-- one lock is written, and so many more or fewer locks are claimed
module _ (places : List ℕ) (locks after : List LockView) (table : List (Option LockView)) (seen : table_of places locks ≡ table) (x : ℕ) (was l : LockView) (w : IsWritten places table x was after l)
    (claimed : ℕ) (counted : claimed ≡ count_claimed (table_of places locks)) where
  was_counted : claimed ≡ count_claimed table
  was_counted = counted ∙ ap count_claimed seen

  written : count_claimed (table_of places after) + claimed_once was ≡ count_claimed table + claimed_once l
  written = subst (λ n. n + claimed_once was ≡ count_claimed table + claimed_once l) (sym (ap count_claimed w.new)) (ap (λ k. count_claimed (with_lock table x l) + claimed_once k) w.old ∙ count_written table x l w.owned)

  pub counted_same : claimed_once l ≡ claimed_once was → claimed ≡ count_claimed (table_of places after)
  counted_same same = let sum = written in let before = was_counted in omega arith

  pub counted_more : (more : ℕ) → claimed_once l ≡ claimed_once was + more → claimed + more ≡ count_claimed (table_of places after)
  counted_more more is = let sum = written in let before = was_counted in omega arith

  pub counted_less : (less : ℕ) → claimed_once l + less ≡ claimed_once was → claimed - less ≡ count_claimed (table_of places after)
  counted_less less is = let sum = written in let before = was_counted in omega arith

-- a lock is counted once at most
one_at_most : (b : Bool) → counted_if b ≤ 1
one_at_most true = omega arith
one_at_most false = omega arith

count_few : (table : List (Option LockView)) → count_claimed table ≤ length table
unfolding of_lock
count_few table =
    let most = sum_by-le of_lock 1 table (λ k d inside. one_at_most (nat_lt 0 (length (lock_or (slice_index_or table k d)).holders + length (lock_or (slice_index_or table k d)).queue))) in
    omega arith

pub count_fits : (places : List ℕ) (locks : List LockView) (more : Bool) → count_claimed (table_of places locks) + counted_if more ≤ length places + 1
count_fits places locks more =
    let few = count_few (table_of places locks) in
    let long = length-map places (lock_there locks) in
    let one = one_at_most more in
    omega arith

-- ---- a table of which nobody claims a lock

none_held : (holders : List Claim) → ((s : ScopeId) → mode_of holders s ≡ None) → length holders ≡ 0
none_held [] none = refl
none_held (c ∷ holders) none =
    let here : mode_of (c ∷ holders) c.scope ≡ Some c.mode = rw (same_scope c.scope) refl in
    absurd (none-some c.mode (sym (none c.scope) ∙ here))

free_once : (l : LockView) → ((s : ScopeId) → mode_of l.holders s ≡ None) → l.queue ≡ [] → claimed_once l ≡ 0
free_once l holders queue =
    let held = none_held l.holders holders in
    let waits : length l.queue ≡ 0 = ap length queue in
    ap counted_if (le-ltb 0 (length l.holders + length l.queue) (omega arith))

pub count_free : (table : List (Option LockView)) → IsUnclaimed table → count_claimed table ≡ 0
unfolding of_lock
count_free table free =
    let none = sum_by-le of_lock 0 table (λ k d inside.
    let once : of_lock (slice_index_or table k d) ≡ 0 = ap of_lock (get_or_default table k d None inside) ∙ free_once (lock_at table k) (free.holder k) (free.queue k) in
    omega arith) in
    omega arith

no_claim : (claims : List Claim) → length claims ≡ 0 → claims ≡ []
no_claim [] none = refl
no_claim (c ∷ claims) none = absurd (omega arith)

once_none : (n : ℕ) → counted_if (nat_lt 0 n) ≡ 0 → n ≡ 0
once_none n none = ⊎_elim
    (λ (some : 0 < n). let one : counted_if (nat_lt 0 n) ≡ 1 = ap counted_if (lt-ltb 0 n some) in absurd (omega arith))
    (λ (past : n ≤ 0). omega arith)
    (cases_lt 0 n)

lock_none : (table : List (Option LockView)) (x : ℕ) → count_claimed table ≡ 0 → claimed_once (lock_at table x) ≡ 0
unfolding of_lock
lock_none table x none = ⊎_elim
    (λ (inside : x < length table). let most = get_or-le-sum_by of_lock table x None inside in omega arith)
    (λ (past : length table ≤ x). ap of_lock (get_or_past table x None past))
    (cases_lt x (length table))

pub free_count : (table : List (Option LockView)) → count_claimed table ≡ 0 → IsUnclaimed table
free_count table none = record {
  holder = λ x s.
      let n = once_none (length (lock_at table x).holders + length (lock_at table x).queue) (lock_none table x none) in
      ap (λ (h : List Claim). mode_of h s) (no_claim (lock_at table x).holders (omega arith));
  queue = λ x.
      let n = once_none (length (lock_at table x).holders + length (lock_at table x).queue) (lock_none table x none) in
      no_claim (lock_at table x).queue (omega arith);
}

-- the same claims are counted alike
pub claims_same : (old new : LockView) → SameClaims old new → claimed_once new ≡ claimed_once old
claims_same old new same =
    let held = ap length same.holders in
    let waits = ap length same.queue in
    let all : length new.holders + length new.queue ≡ length old.holders + length old.queue = omega arith in
    ap (λ n. counted_if (nat_lt 0 n)) all
