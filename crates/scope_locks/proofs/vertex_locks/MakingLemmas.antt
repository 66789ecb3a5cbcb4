-- How a table is made, one vertex after another, and made anew.
use Rattle.std.proofs.Common.{◌≡◌, ◌≢◌, ℕ, ◌+◌, ◌<◌, ◌≤◌, ◌==◌, ◌++◌, [], ◌∷◌, get_or, Bool, true, false, Some, None, is_some, List, length, nat_lt, slice_index, slice_index_or, slice_set, if◌then◌else◌, refl, sym, ◌∙◌, ap, subst, ⊎_elim, arith, eq-eqb}
use Rattle.std.specs.List.{All, list_any}
use Rattle.std.proofs.lemmas.Bool.{cases_eq, cases_lt, true≢false, lt-ltb, le-ltb, eqb-true, ltb-true}
use Rattle.std.proofs.Math.ListN.{length-set}
use Rattle.std.proofs.lemmas.List.{length-map, get_or-map, get_or_append_left, get_or_default, get_or_past, get_or_push, get_or-set_same, get_or-set_other, length_push}
use Rattle.std.proofs.lemmas.List.Folds.{list_any-from_Any, Any-from_list_any}
use Rattle.gl_base.specs.declared.numbers.Vertex.{Vertex}
use Rattle.gl_base.specs.declared.scopes.Claim.{Claim}
use Rattle.scope_locks.specs.vertex_locks.Locks.{LockView, mode_of}
use Rattle.scope_locks.specs.vertex_locks.Inner.KeptTables.{IsFree, ArePlacesApart}
use Rattle.scope_locks.specs.vertex_locks.Tables.{no_lock, lock_or, lock_at, is_owned, room_at, IsUnclaimed, lock_there, table_of}

-- ---- what a table of these places and locks has

is_some_if : (b : Bool) (l : LockView) → is_some (if b then Some l else None) ≡ b
is_some_if true l = refl
is_some_if false l = refl

pub owned_past : (places : List ℕ) (locks : List LockView) (x : ℕ) → length places ≤ x → is_owned (table_of places locks) x ≡ false
owned_past places locks x past = ap is_some (get_or_past (table_of places locks) x None (let long = length-map places (lock_there locks) in omega arith))

pub owned_within : (places : List ℕ) (locks : List LockView) (x : ℕ) → x < length places → is_owned (table_of places locks) x ≡ nat_lt (slice_index places x) (length locks)
owned_within places locks x within = ap is_some (get_or-map (lock_there locks) places x 0 None within) ∙ is_some_if (nat_lt (slice_index places x) (length locks)) (slice_index_or locks (slice_index places x) no_lock)

lock_there_is : (locks : List LockView) (p : ℕ) → lock_or (lock_there locks p) ≡ slice_index_or locks p no_lock
lock_there_is locks p = ⊎_elim
    (λ (inside : p < length locks). rw (lt-ltb p (length locks) inside))
    (λ (past : length locks ≤ p). rw (le-ltb p (length locks) past) (sym (get_or_past locks p no_lock past)))
    (cases_lt p (length locks))

-- the lock of x, which is free where there is none
pub lock_within : (places : List ℕ) (locks : List LockView) (x : ℕ) → x < length places → lock_at (table_of places locks) x ≡ slice_index_or locks (slice_index places x) no_lock
lock_within places locks x within = ap lock_or (get_or-map (lock_there locks) places x 0 None within) ∙ lock_there_is locks (slice_index places x)

pub lock_past : (places : List ℕ) (locks : List LockView) (x : ℕ) → length places ≤ x → lock_at (table_of places locks) x ≡ no_lock
lock_past places locks x past = ap lock_or (get_or_past (table_of places locks) x None (let long = length-map places (lock_there locks) in omega arith))

free_at : (places : List ℕ) (locks : List LockView) → ((k : ℕ) → IsFree (slice_index_or locks k no_lock)) → (x : ℕ) → IsFree (lock_at (table_of places locks) x)
free_at places locks free x = ⊎_elim
    (λ (within : x < length places). subst IsFree (sym (lock_within places locks x within)) (free (slice_index places x)))
    (λ (past : length places ≤ x). subst IsFree (sym (lock_past places locks x past)) (refl, refl))
    (cases_lt x (length places))

pub unclaimed : (places : List ℕ) (locks : List LockView) → ((k : ℕ) → IsFree (slice_index_or locks k no_lock)) → IsUnclaimed (table_of places locks)
unclaimed places locks free = record {
  holder = λ x s. ap (λ (h : List Claim). mode_of h s) (free_at places locks free x).0;
  queue = λ x. (free_at places locks free x).1;
}

-- ---- locks that were made free again

pub owned_reset : (places : List ℕ) (old new : List LockView) → length new ≡ length old → (x : ℕ) → is_owned (table_of places new) x ≡ is_owned (table_of places old) x
owned_reset places old new same x = ⊎_elim
    (λ (within : x < length places). owned_within places new x within ∙ (ap (nat_lt (slice_index places x)) same ∙ sym (owned_within places old x within)))
    (λ (past : length places ≤ x). owned_past places new x past ∙ sym (owned_past places old x past))
    (cases_lt x (length places))

pub room_reset : (places : List ℕ) (old new : List LockView) → ((k : ℕ) → (slice_index_or old k no_lock).room ≤ (slice_index_or new k no_lock).room) → (x : ℕ) → room_at (table_of places old) x ≤ room_at (table_of places new) x
room_reset places old new more x = ⊎_elim
    (λ (within : x < length places).
    let was = ap (λ (l : LockView). l.room) (lock_within places old x within) in
    let is = ap (λ (l : LockView). l.room) (lock_within places new x within) in
    let most = more (slice_index places x) in omega arith)
    (λ (past : length places ≤ x).
    let was = ap (λ (l : LockView). l.room) (lock_past places old x past) in
    let is = ap (λ (l : LockView). l.room) (lock_past places new x past) in omega arith)
    (cases_lt x (length places))

-- ---- a table that is made

-- the first i of these vertices have their places
pub record AreSet (owned : List Vertex) (count i : ℕ) (places : List ℕ) : Type 0 where
  pub many : length places ≡ count
  pub back : (x : ℕ) (d : Vertex) → x < count → slice_index places x < i → (slice_index_or owned (slice_index places x) d).0 ≡ x
  pub there : (k : ℕ) (d : Vertex) → k < i → slice_index places (slice_index_or owned k d).0 < i
  pub none : (x : ℕ) → x < count → i ≤ slice_index places x → slice_index places x ≡ 4294967295

-- one vertex more got its place
pub set_more : (owned : List Vertex) (count i : ℕ) (places : List ℕ) (v : Vertex) → AreSet owned count i places
    → v ≡ get_or owned i v → i < length owned → length owned ≤ count → count < 4294967296 → v.0 < count → AreSet owned count (i + 1) (slice_set places v.0 i)
set_more owned count i places v is read within few small below =
    let many = is.many in
    let here : slice_index (slice_set places v.0 i) v.0 ≡ i = get_or-set_same places v.0 i 0 (omega arith) in
    let there : (x : ℕ) → x ≢ v.0 → slice_index (slice_set places v.0 i) x ≡ slice_index places x = λ x other. get_or-set_other places v.0 x i 0 other in
    let named : (d : Vertex) → (slice_index_or owned i d).0 ≡ v.0 = λ d. ap (λ (u : Vertex). u.0) (sym (read ∙ get_or_default owned i v d within)) in
    record {
      many = length-set places v.0 i ∙ many;
      back = λ x d early placed. ⊎_elim
          (λ (same : x ≡ v.0).
          let at : slice_index (slice_set places v.0 i) x ≡ i = ap (slice_index (slice_set places v.0 i)) same ∙ here in
          ap (λ (k : ℕ). (slice_index_or owned k d).0) at ∙ (named d ∙ sym same))
          (λ (other : x ≢ v.0).
          let at = there x other in
          let old : slice_index places x < i = ⊎_elim
          (λ (lt : slice_index places x < i). lt)
          (λ (le : i ≤ slice_index places x). let last = is.none x early le in absurd (omega (arith, last, placed, at, within, few, small)))
          (cases_lt (slice_index places x) i) in
          ap (λ (k : ℕ). (slice_index_or owned k d).0) at ∙ is.back x d early old)
          (cases_eq x v.0);
      there = λ k d before.
          let x = (slice_index_or owned k d).0 in
          ⊎_elim
          (λ (same : x ≡ v.0). let at : slice_index (slice_set places v.0 i) x ≡ i = ap (slice_index (slice_set places v.0 i)) same ∙ here in omega arith)
          (λ (other : x ≢ v.0).
          let at = there x other in
          let old : k < i = ⊎_elim
          (λ (same : k ≡ i). absurd (other (ap (λ (j : ℕ). (slice_index_or owned j d).0) same ∙ named d)))
          (λ (apart : k ≢ i). let lt : k < i = omega (arith, before, apart) in lt)
          (cases_eq k i) in
          let was = is.there k d old in
          omega (arith, was, at))
          (cases_eq x v.0);
      none = λ x early past. ⊎_elim
          (λ (same : x ≡ v.0). let at : slice_index (slice_set places v.0 i) x ≡ i = ap (slice_index (slice_set places v.0 i)) same ∙ here in absurd (omega (arith, at, past)))
          (λ (other : x ≢ v.0).
          let at = there x other in
          at ∙ is.none x early (omega (arith, at, past)))
          (cases_eq x v.0);
    }

pub made_apart : (owned : List Vertex) (count i : ℕ) (places : List ℕ) (locks : List LockView) → length locks ≡ i → AreSet owned count i places → ArePlacesApart places (length locks)
made_apart owned count i places locks locks_many is = λ x y below above early same.
    let many = is.many in
    let d : Vertex = record { 0 = 0 } in
    let one = is.back x d (omega arith) (omega arith) in
    let other = is.back y d (omega arith) (omega arith) in
    sym one ∙ (ap (λ n. (slice_index_or owned n d).0) same ∙ other)

same_truth : (a b : Bool) → (a ≡ true → b ≡ true) → (b ≡ true → a ≡ true) → a ≡ b
same_truth true b to back = sym (to refl)
same_truth false true to back = back refl
same_truth false false to back = refl

pub made_owned : (owned : List Vertex) (count i : ℕ) (places : List ℕ) (locks : List LockView) → length locks ≡ i → AreSet owned count i places → i ≡ length owned → All (λ v. v.0 < count) owned
    → (x : ℕ) → is_owned (table_of places locks) x ≡ list_any (λ v. v.0 == x) owned
made_owned owned count i places locks locks_many is whole below x =
    let many = is.many in
    same_truth (is_owned (table_of places locks) x) (list_any (λ v. v.0 == x) owned)
    (λ yes. ⊎_elim
    (λ (within : x < length places).
    let early : slice_index places x < i = let test = ltb-true (slice_index places x) (length locks) (sym (owned_within places locks x within) ∙ yes) in omega arith in
    let d : Vertex = record { 0 = 0 } in
    let there = is.back x d (omega arith) early in
    let v = slice_index_or owned (slice_index places x) d in
    list_any-from_Any (λ (u : Vertex). u.0 == x) owned (slice_index places x, v, omega arith, get_or_default owned (slice_index places x) v d (omega arith), eq-eqb v.0 x there))
    (λ (past : length places ≤ x). absurd (true≢false (sym yes ∙ owned_past places locks x past)))
    (cases_lt x (length places)))
    (λ listed.
    let at = Any-from_list_any (λ (u : Vertex). u.0 == x) owned listed in
    let k = at.0 in
    let v = at.1 in
    let inside : k < length owned = at.2 in
    let is_x : v.0 ≡ x = eqb-true v.0 x at.4 in
    let low : (slice_index_or owned k v).0 < count = below k v inside in
    let named : (slice_index_or owned k v).0 ≡ x = ap (λ (u : Vertex). u.0) at.3 ∙ is_x in
    let place = subst (λ n. slice_index places n < i) named (is.there k v (omega arith)) in
    owned_within places locks x (omega arith) ∙ lt-ltb (slice_index places x) (length locks) (omega arith))
