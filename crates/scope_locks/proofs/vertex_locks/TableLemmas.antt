-- What becomes of a table where one lock is written.
use Rattle.std.proofs.Common.{◌≡◌, ◌≢◌, ℕ, suc, ◌+◌, ◌-◌, [], ◌∷◌, ◌++◌, replicate, append_assoc, ◌<◌, ◌≤◌, Bool, true, false, Option, Some, None, is_some, option_map, List, length, slice_index, slice_index_or, slice_set, if◌then◌else◌, refl, sym, ◌∙◌, ap, subst, ⊎_elim, arith, eq-eqb, ne_eqb}
use Rattle.std.proofs.lemmas.Bool.{cases_lt, cases_eq, true≢false, lt-ltb, le-ltb}
use Rattle.std.proofs.lemmas.List.{length-map, length_push, get_or_append_left, get_or-append_right, get_or-replicate, set-append_left, length-append, length-replicate, get_or-map, get_or-set_same, get_or-set_other, get_or_default, get_or_past, same_lists, set-get_or, set-set}
use Rattle.std.proofs.Math.ListN.{length-set}
use Rattle.gl_base.specs.declared.scopes.Claim.{Claim}
use Rattle.gl_base.specs.declared.scopes.Mode.{Mode}
use Rattle.gl_base.specs.declared.scopes.ScopeId.{ScopeId}
use Rattle.gl_base.specs.scope_lists.Scopes.{is_scope, set_for, set_at}
use Rattle.gl_base.specs.scope_lists.Found.{by_scope}
use Rattle.scope_locks.specs.vertex_locks.Inner.KeptLocks.{requested, IsTaken, IsReleased, SameClaims}
use Rattle.scope_locks.specs.vertex_locks.Locks.{has, IsFreeLock, LockView, claimant, mode_of}
use Rattle.scope_locks.specs.vertex_locks.Inner.KeptLists.{all_locks}
use Rattle.scope_locks.specs.vertex_locks.Inner.KeptTables.{ArePlacesApart, IsFree}
use Rattle.scope_locks.specs.vertex_locks.Tables.{no_lock, lock_or, lock_at, is_owned, holder_at, queue_at, room_at, HasAsked, HasTaken, HasTakenFree, HasReleased, HasRoomFor, lock_there, table_of}

-- l for the lock of x
abbrev pub with_lock : List (Option LockView) → ℕ → LockView → List (Option LockView)
with_lock table x l = slice_set table x (Some l)

-- ---- places

-- the vertex has a place, and the place a lock
pub record IsPlaced (places : List ℕ) (locks : List LockView) (x : ℕ) : Type 0 where
  pub vertex : x < length places
  pub place : slice_index places x < length locks
  pub lock : slice_index_or (table_of places locks) x None ≡ Some (slice_index_or locks (slice_index places x) no_lock)

there-inside : (locks : List LockView) (p : ℕ) → is_some (lock_there locks p) ≡ true → p < length locks
there-inside locks p is = ⊎_elim
    (λ (inside : p < length locks). inside)
    (λ (past : length locks ≤ p). let none : lock_there locks p ≡ None = rw (le-ltb p (length locks) past) in absurd (true≢false (sym is ∙ ap is_some none)))
    (cases_lt p (length locks))

there-is : (locks : List LockView) (p : ℕ) → p < length locks → lock_there locks p ≡ Some (slice_index_or locks p no_lock)
there-is locks p inside = rw (lt-ltb p (length locks) inside)

pub is_placed : (places : List ℕ) (locks : List LockView) (x : ℕ) → is_owned (table_of places locks) x ≡ true → IsPlaced places locks x
is_placed places locks x owned = ⊎_elim
    (λ (inside : x < length places).
    let read : slice_index_or (table_of places locks) x None ≡ lock_there locks (slice_index places x) = get_or-map (lock_there locks) places x 0 None inside in
    let place = there-inside locks (slice_index places x) (sym (ap is_some read) ∙ owned) in
    record { vertex = inside; place = place; lock = read ∙ there-is locks (slice_index places x) place })
    (λ (past : length places ≤ x).
    let long = length-map places (lock_there locks) in
    let none : slice_index_or (table_of places locks) x None ≡ None = get_or_past (table_of places locks) x None (omega arith) in
    absurd (true≢false (sym owned ∙ ap is_some none)))
    (cases_lt x (length places))

-- one lock is written
there-set_same : (locks : List LockView) (p : ℕ) (l : LockView) → p < length locks → lock_there (slice_set locks p l) p ≡ Some l
there-set_same locks p l inside = there-is (slice_set locks p l) p (let long = length-set locks p l in omega arith) ∙ ap Some (get_or-set_same locks p l no_lock inside)

there-set_other : (locks : List LockView) (p q : ℕ) (l : LockView) → q ≢ p → lock_there (slice_set locks p l) q ≡ lock_there locks q
there-set_other locks p q l other = rw (length-set locks p l) (rw (get_or-set_other locks p q l no_lock other))

pub table_set : (places : List ℕ) (locks : List LockView) (x : ℕ) (l : LockView) → ArePlacesApart places (length locks) → IsPlaced places locks x
    → table_of places (slice_set locks (slice_index places x) l) ≡ with_lock (table_of places locks) x l
table_set places locks x l apart is =
    let p = slice_index places x in
    let new = slice_set locks p l in
    let old_long = length-map places (lock_there locks) in
    let new_long = length-map places (lock_there new) in
    let set_long = length-set (table_of places locks) x (Some l) in
    same_lists (table_of places new) (with_lock (table_of places locks) x l) (omega arith)
    (λ y d inside.
    let early : y < length places = omega arith in
    let read = get_or-map (lock_there new) places y 0 d early in
    ⊎_elim
    (λ (here : y ≡ x).
    let at : slice_index places y ≡ p = ap (slice_index places) here in
    read ∙ (ap (lock_there new) at ∙ (there-set_same locks p l is.place ∙ sym (ap (λ n. slice_index_or (with_lock (table_of places locks) x l) n d) here ∙ get_or-set_same (table_of places locks) x (Some l) d (omega (arith, is.vertex))))))
    (λ (other : y ≢ x).
    let elsewhere : slice_index places y ≢ p = λ same. other (sym (apart x y is.vertex early is.place (sym same))) in
    read ∙ (there-set_other locks p (slice_index places y) l elsewhere ∙ (sym (get_or-map (lock_there locks) places y 0 d early) ∙ sym (get_or-set_other (table_of places locks) x y (Some l) d other))))
    (cases_eq y x))

-- what is read at the place of x is the lock of x
pub is_read : (places : List ℕ) (locks : List LockView) (table : List (Option LockView)) (x p : ℕ) (old : LockView) → table_of places locks ≡ table → is_owned table x ≡ true → p ≡ slice_index_or places x p → old ≡ slice_index_or locks p no_lock → old ≡ lock_at table x
is_read places locks table x p old seen owned at read =
    let is = is_placed places locks x (ap (λ t. is_owned t x) seen ∙ owned) in
    let place : p ≡ slice_index places x = at ∙ get_or_default places x p 0 is.vertex in
    let lock : lock_at (table_of places locks) x ≡ slice_index_or locks p no_lock = ap lock_or is.lock ∙ ap (λ n. slice_index_or locks n no_lock) (sym place) in
    read ∙ (sym lock ∙ ap (λ t. lock_at t x) seen)

-- where x has a lock, its place is one of those
pub is_within : (places : List ℕ) (locks : List LockView) (table : List (Option LockView)) (x p : ℕ) → table_of places locks ≡ table → is_owned table x ≡ true → p ≡ slice_index_or places x p → p < length locks
is_within places locks table x p seen owned at =
    let is = is_placed places locks x (ap (λ t. is_owned t x) seen ∙ owned) in
    let place : p ≡ slice_index places x = at ∙ get_or_default places x p 0 is.vertex in
    let inside = is.place in omega arith

-- ---- locks of which the last aren't kept

pub all_many : (kept : List LockView) (many : ℕ) → length kept ≤ many → length (all_locks kept many) ≡ many
all_many kept many few =
    let long = length-append kept (replicate (many - length kept) no_lock) in
    let rest = length-replicate (many - length kept) no_lock in
    omega arith

-- one that is kept is written
pub kept_set : (kept : List LockView) (many p : ℕ) (l : LockView) → p < length kept → all_locks (slice_set kept p l) many ≡ slice_set (all_locks kept many) p l
kept_set kept many p l inside =
    ap (λ n. slice_set kept p l ++ replicate (many - n) no_lock) (length-set kept p l)
    ∙ sym (set-append_left kept (replicate (many - length kept) no_lock) p l inside)

pub kept_at : (kept : List LockView) (many p : ℕ) → p < length kept → slice_index_or (all_locks kept many) p no_lock ≡ slice_index_or kept p no_lock
kept_at kept many p inside = get_or_append_left kept (replicate (many - length kept) no_lock) no_lock p inside

-- what is read of those that are kept is read of all
pub kept_read : (kept : List LockView) (many p : ℕ) (old : LockView) → p < length kept → old ≡ slice_index_or kept p old → old ≡ slice_index_or (all_locks kept many) p no_lock
kept_read kept many p old inside read = read ∙ (get_or_default kept p old no_lock inside ∙ sym (kept_at kept many p inside))

pub free_in : (n i : ℕ) → slice_index_or (replicate n no_lock) i no_lock ≡ no_lock
free_in n i = ⊎_elim
    (λ (inside : i < n). get_or-replicate n i no_lock no_lock inside)
    (λ (past : n ≤ i). get_or_past (replicate n no_lock) i no_lock (let long = length-replicate n no_lock in omega arith))
    (cases_lt i n)

-- one that isn't kept is free
pub free_at : (kept : List LockView) (many p : ℕ) → length kept ≤ p → slice_index_or (all_locks kept many) p no_lock ≡ no_lock
free_at kept many p past = get_or-append_right kept (replicate (many - length kept) no_lock) (length kept) p no_lock refl past ∙ free_in (many - length kept) (p - length kept)

-- as many are kept, and so there are as many
pub all_long : (old new : List LockView) (many : ℕ) → length new ≡ length old → length (all_locks new many) ≡ length (all_locks old many)
all_long old new many same =
    length-append new (replicate (many - length new) no_lock) ∙ ((λ i. same i + length (replicate (many - same i) no_lock)) ∙ sym (length-append old (replicate (many - length old) no_lock)))

-- where nobody claims one that is kept, nobody claims one
pub all_free : (kept : List LockView) (many : ℕ) → ((k : ℕ) → IsFree (slice_index_or kept k no_lock)) → (k : ℕ) → IsFree (slice_index_or (all_locks kept many) k no_lock)
all_free kept many free k = ⊎_elim
    (λ (inside : k < length kept). subst IsFree (sym (kept_at kept many k inside)) (free k))
    (λ (past : length kept ≤ k). subst IsFree (sym (free_at kept many k past)) (refl, refl))
    (cases_lt k (length kept))

pub all_room : (old new : List LockView) (many : ℕ) → length new ≡ length old → ((k : ℕ) → (slice_index_or old k no_lock).room ≤ (slice_index_or new k no_lock).room) → (k : ℕ) → (slice_index_or (all_locks old many) k no_lock).room ≤ (slice_index_or (all_locks new many) k no_lock).room
all_room old new many same more k = ⊎_elim
    (λ (inside : k < length old).
    let was = ap (λ (l : LockView). l.room) (kept_at old many k inside) in
    let is = ap (λ (l : LockView). l.room) (kept_at new many k (omega arith)) in
    let most = more k in omega arith)
    (λ (past : length old ≤ k).
    let was = ap (λ (l : LockView). l.room) (free_at old many k past) in omega arith)
    (cases_lt k (length old))

-- one more is kept
pub all_more : (kept : List LockView) (many : ℕ) → length kept < many → all_locks (kept ++ no_lock ∷ []) many ≡ all_locks kept many
all_more kept many few =
    let n = many - length kept - 1 in
    let long = length_push kept no_lock in
    let less : many - length (kept ++ no_lock ∷ []) ≡ n = omega arith in
    let more : many - length kept ≡ suc n = omega arith in
    ap (λ k. (kept ++ no_lock ∷ []) ++ replicate k no_lock) less ∙ (append_assoc kept (no_lock ∷ []) (replicate n no_lock) ∙ sym (ap (λ k. kept ++ replicate k no_lock) more))

-- where there is room, the lock is kept
pub has_kept : (places : List ℕ) (kept : List LockView) (many : ℕ) (table : List (Option LockView)) (x p : ℕ) → table_of places (all_locks kept many) ≡ table → is_owned table x ≡ true → p ≡ slice_index_or places x p → 0 < room_at table x → p < length kept
has_kept places kept many table x p seen owned at room = ⊎_elim
    (λ (inside : p < length kept). inside)
    (λ (past : length kept ≤ p).
    let none = ap (λ (l : LockView). l.room) (is_read places (all_locks kept many) table x p no_lock seen owned at (sym (free_at kept many p past))) in
    absurd (omega (arith, none, room)))
    (cases_lt p (length kept))

-- where it isn't, nobody claims it
pub is_none : (places : List ℕ) (kept : List LockView) (many : ℕ) (table : List (Option LockView)) (x p : ℕ) → table_of places (all_locks kept many) ≡ table → is_owned table x ≡ true → p ≡ slice_index_or places x p → length kept ≤ p → no_lock ≡ lock_at table x
is_none places kept many table x p seen owned at past = is_read places (all_locks kept many) table x p no_lock seen owned at (sym (free_at kept many p past))

-- one lock is written, which is the lock of x
pub record IsWritten (places : List ℕ) (table : List (Option LockView)) (x : ℕ) (was : LockView) (after : List LockView) (l : LockView) : Type 0 where
  pub owned : is_owned table x ≡ true
  pub old : was ≡ lock_at table x
  pub new : table_of places after ≡ with_lock table x l

pub is_written : (places : List ℕ) (kept : List LockView) (many : ℕ) (table : List (Option LockView)) (x p : ℕ) (old l : LockView)
    → table_of places (all_locks kept many) ≡ table → is_owned table x ≡ true → ArePlacesApart places (length (all_locks kept many)) → p ≡ slice_index_or places x p → p < length kept → old ≡ slice_index_or kept p old
    → IsWritten places table x old (all_locks (slice_set kept p l) many) l
is_written places kept many table x p old l seen owned apart at inside read =
    let locks = all_locks kept many in
    let is = is_placed places locks x (ap (λ t. is_owned t x) seen ∙ owned) in
    let place : p ≡ slice_index places x = at ∙ get_or_default places x p 0 is.vertex in
    record {
      owned = owned;
      old = is_read places locks table x p old seen owned at (kept_read kept many p old inside read);
      new = ap (table_of places) (kept_set kept many p l inside) ∙ (ap (λ n. table_of places (slice_set locks n l)) place ∙ (table_set places locks x l apart is ∙ ap (λ t. with_lock t x l) seen));
    }

pub many_set : (kept : List LockView) (many p : ℕ) (l : LockView) → p < length kept → length (all_locks (slice_set kept p l) many) ≡ length (all_locks kept many)
many_set kept many p l inside = ap length (kept_set kept many p l inside) ∙ length-set (all_locks kept many) p l

-- ---- look-ups after a write

pub owned_inside : (table : List (Option LockView)) (x : ℕ) → is_owned table x ≡ true → x < length table
owned_inside table x owned = ⊎_elim
    (λ (inside : x < length table). inside)
    (λ (past : length table ≤ x). absurd (true≢false (sym owned ∙ ap is_some (get_or_past table x None past))))
    (cases_lt x (length table))

pub lock-here : (table : List (Option LockView)) (x : ℕ) (l : LockView) → is_owned table x ≡ true → lock_at (with_lock table x l) x ≡ l
lock-here table x l owned = ap lock_or (get_or-set_same table x (Some l) None (owned_inside table x owned))

pub lock-there : (table : List (Option LockView)) (x y : ℕ) (l : LockView) → y ≢ x → lock_at (with_lock table x l) y ≡ lock_at table y
lock-there table x y l other = ap lock_or (get_or-set_other table x y (Some l) None other)

pub owned-kept : (table : List (Option LockView)) (x : ℕ) (l : LockView) (y : ℕ) → is_owned table x ≡ true → is_owned (with_lock table x l) y ≡ is_owned table y
owned-kept table x l y owned = ⊎_elim
    (λ (here : y ≡ x). subst (λ z. is_owned (with_lock table x l) z ≡ is_owned table z) (sym here) (ap is_some (get_or-set_same table x (Some l) None (owned_inside table x owned)) ∙ sym owned))
    (λ (other : y ≢ x). ap is_some (get_or-set_other table x y (Some l) None other))
    (cases_eq y x)

-- the lock is written as it was
some_there : (o : Option LockView) → is_some o ≡ true → Some (lock_or o) ≡ o
some_there None is = absurd (true≢false (sym is))
some_there (Some l) is = refl

pub with_lock-same : (table : List (Option LockView)) (x : ℕ) (l : LockView) → is_owned table x ≡ true → l ≡ lock_at table x → with_lock table x l ≡ table
with_lock-same table x l owned same =
    ap (with_lock table x) same ∙ (ap (slice_set table x) (some_there (slice_index_or table x None) owned) ∙ set-get_or table x None)

-- a look-up that is f of the lock is f of the new lock at x, and as before elsewhere
pub looked : {X : Type 0} (f : LockView → X) (table : List (Option LockView)) (x : ℕ) (l : LockView) → is_owned table x ≡ true → (y : ℕ) → f (lock_at (with_lock table x l) y) ≡ set_at (λ z. f (lock_at table z)) x (f l) y
looked f table x l owned y = ⊎_elim
    (λ (here : y ≡ x). subst (λ z. f (lock_at (with_lock table x l) z) ≡ set_at (λ u. f (lock_at table u)) x (f l) z) (sym here) (rw (eq-eqb x x refl) (ap f (lock-here table x l owned))))
    (λ (other : y ≢ x). rw (ne_eqb y x other) (ap f (lock-there table x y l other)))
    (cases_eq y x)

-- and so as before everywhere where f doesn't tell the locks apart
pub looked_same : {X : Type 0} (f : LockView → X) (table : List (Option LockView)) (x : ℕ) (l : LockView) → is_owned table x ≡ true → f l ≡ f (lock_at table x) → (y : ℕ) → f (lock_at (with_lock table x l) y) ≡ f (lock_at table y)
looked_same f table x l owned same y = ⊎_elim
    (λ (here : y ≡ x). subst (λ z. f (lock_at (with_lock table x l) z) ≡ f (lock_at table z)) (sym here) (ap f (lock-here table x l owned) ∙ same))
    (λ (other : y ≢ x). ap f (lock-there table x y l other))
    (cases_eq y x)

-- ---- what each call makes of the table

pub has_asked : (table : List (Option LockView)) (x : ℕ) (c : Claim) → is_owned table x ≡ true → HasAsked table (with_lock table x (requested c (lock_at table x))) x c
has_asked table x c owned =
    let l = requested c (lock_at table x) in
    record {
      owned = λ y. owned-kept table x l y owned;
      holder = λ y s. looked_same (λ (k : LockView). mode_of k.holders s) table x l owned refl y;
      queue = looked (λ (k : LockView). k.queue) table x l owned;
      room = looked (λ (k : LockView). k.room) table x l owned;
    }

mode_if : (b : Bool) (one other : Option Claim) → option_map (λ (c : Claim). c.mode) (if b then one else other) ≡ (if b then option_map (λ (c : Claim). c.mode) one else option_map (λ (c : Claim). c.mode) other)
mode_if true one other = refl
mode_if false one other = refl

-- a scope holds a lock in some mode where it has a claim among the holders
mode_some : (o : Option Claim) → is_some (option_map (λ (c : Claim). c.mode) o) ≡ is_some o
mode_some None = refl
mode_some (Some c) = refl

pub some_mode : (claims : List Claim) (s : ScopeId) → is_some (mode_of claims s) ≡ has s claims
some_mode claims s = mode_some (by_scope claimant claims s)

-- one scope's claim among the holders has changed
mode_changed : (old new : List Claim) (s : ScopeId) (o : Option Claim) → ((t : ScopeId) → by_scope claimant new t ≡ (if is_scope t s then o else by_scope claimant old t)) → mode_of new ≡ set_for (mode_of old) s (option_map (λ c. c.mode) o)
mode_changed old new s o is = λ i t. (ap (option_map (λ (c : Claim). c.mode)) (is t) ∙ mode_if (is_scope t s) o (by_scope claimant old t)) i

pub has_taken : (table : List (Option LockView)) (x : ℕ) (l : LockView) (c : Claim) → is_owned table x ≡ true → IsTaken (lock_at table x) l c → HasTaken table (with_lock table x l) x c
has_taken table x l c owned is = record {
  owned = λ y. owned-kept table x l y owned;
  holder = λ y s. ap (λ (f : ScopeId → Option Mode). f s) (looked (λ (k : LockView). mode_of k.holders) table x l owned y
      ∙ ap (λ (f : ScopeId → Option Mode). set_at (holder_at table) x f y) (mode_changed (lock_at table x).holders l.holders c.scope (Some c) is.holders));
  queue = λ y. looked (λ (k : LockView). k.queue) table x l owned y ∙ ap (λ q. set_at (queue_at table) x q y) is.queue;
  room = looked_same (λ (k : LockView). k.room) table x l owned is.room;
}

-- a claim that comes where there is none has asked, and then holds the lock
pub has_taken_free : (table : List (Option LockView)) (x : ℕ) (l : LockView) (c : Claim) → is_owned table x ≡ true → IsFreeLock (holder_at table x) (queue_at table x) → 0 < room_at table x → IsTaken (requested c (lock_at table x)) l c
    → HasTakenFree table (with_lock table x l) x c
has_taken_free table x l c owned free room is =
    let k = requested c (lock_at table x) in
    let asked = with_lock table x k in
    let owns : is_owned asked x ≡ true = owned-kept table x k x owned ∙ owned in
    record {
      free = free;
      room = room;
      asked = has_asked table x c owned;
      taken = subst (λ (t : List (Option LockView)). HasTaken asked t x c) (set-set table x (Some k) (Some l))
          (has_taken asked x l c owns (subst (λ (j : LockView). IsTaken j l c) (sym (lock-here table x k owned)) is));
    }

pub has_released : (table : List (Option LockView)) (x : ℕ) (l : LockView) (s : ScopeId) → is_owned table x ≡ true → IsReleased (lock_at table x) l s → HasReleased table (with_lock table x l) x s
has_released table x l s owned is = record {
  owned = λ y. owned-kept table x l y owned;
  holder = λ y t. ap (λ (f : ScopeId → Option Mode). f t) (looked (λ (k : LockView). mode_of k.holders) table x l owned y
      ∙ ap (λ (f : ScopeId → Option Mode). set_at (holder_at table) x f y) (mode_changed (lock_at table x).holders l.holders s None is.holders));
  queue = looked_same (λ (k : LockView). k.queue) table x l owned is.queue;
}

-- room was made at x, and no claim changed
pub has_room : (table : List (Option LockView)) (x : ℕ) (l : LockView) → is_owned table x ≡ true → (lock_at table x).room ≤ l.room → SameClaims (lock_at table x) l → HasRoomFor table (with_lock table x l) x
has_room table x l owned more same = record {
  owned = λ y. owned-kept table x l y owned;
  holder = λ y s. looked_same (λ (k : LockView). mode_of k.holders s) table x l owned (ap (λ (h : List Claim). mode_of h s) same.holders) y;
  queue = looked_same (λ (k : LockView). k.queue) table x l owned same.queue;
  room = λ y. ⊎_elim
      (λ (here : y ≡ x). subst (λ z. room_at table z ≤ room_at (with_lock table x l) z) (sym here) (let same : room_at (with_lock table x l) x ≡ l.room = ap (λ (k : LockView). k.room) (lock-here table x l owned) in let was : room_at table x ≤ l.room = more in omega arith))
      (λ (other : y ≢ x). let same : room_at (with_lock table x l) y ≡ room_at table y = ap (λ (k : LockView). k.room) (lock-there table x y l other) in omega arith)
      (cases_eq y x);
}
