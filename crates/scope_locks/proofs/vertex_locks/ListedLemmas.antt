-- Which locks would be granted, and which vertices are listed.
use Rattle.std.proofs.Common.{◌≡◌, ◌≢◌, ℕ, zero, suc, ◌<◌, ◌≤◌, Bool, true, false, Option, None, Some, is_some, List, [], ◌∷◌, ◌++◌, drop, length, IfSome, slice_index, slice_index_or, slice_set, if◌then◌else◌, refl, sym, ◌∙◌, ap, subst, ⊎_elim, arith, eq-eqb, ne_eqb}
use Rattle.std.specs.List.{sum_by}
use Rattle.std.proofs.lemmas.Bool.{cases_eq, true≢false, lt-ltb}
use Rattle.std.proofs.lemmas.List.{get_or-set_same, get_or-set_other, get_or_default, length-map}
use Rattle.std.proofs.lemmas.List.Sums.{sum_by-set}
use Rattle.std.proofs.Math.ListN.{length-set}
use Rattle.gl_base.specs.declared.scopes.Claim.{Claim}
use Rattle.gl_base.specs.declared.scopes.ScopeId.{ScopeId}
use Rattle.task_sets.specs.vertex_queue.Flags.{is_flagged}
use Rattle.scope_locks.specs.vertex_locks.Locks.{LockView, IsNext, mode_of}
use Rattle.scope_locks.specs.vertex_locks.Inner.KeptLists.{locks_in}
use Rattle.scope_locks.specs.declared.vertex_locks.lists.LockList.{LockList}
use Rattle.scope_locks.specs.vertex_locks.Inner.KeptTables.{ArePlacesApart, ListsGrantable, IsCountedTable, IsFree, IsListedAgain, IsTable, count_claimed}
use Rattle.scope_locks.specs.vertex_locks.Tables.{is_owned, holder_at, queue_at, lock_at, lock_there, table_of, no_lock, HasAsked, HasGranted, HasReleased, HasRoomFor, HasTaken, HasTakenFree, asked_at, IsGrantable, IsTurn, IsUnclaimed}
use Rattle.scope_locks.specs.declared.vertex_locks.turns.Turn.{Turn}
use Rattle.scope_locks.specs.declared.vertex_locks.turns.Turn.TheVariants.{Granted, Waiting}
use Rattle.scope_locks.proofs.vertex_locks.TableLemmas.{is_placed, is_read, owned_inside}
use Rattle.scope_locks.proofs.vertex_locks.MakingLemmas.{owned_reset, unclaimed}

none_first : (c : Claim) (behind : List Claim) → [] ≡ c ∷ behind → ⊥
none_first c behind is = cc

-- what comes next where nobody has come or gone
pub next_back : (old new : List (Option LockView)) (x : ℕ) (c : Claim) → ((s : ScopeId) → holder_at new x s ≡ holder_at old x s) → queue_at new x ≡ queue_at old x → IsNext (holder_at new x) (queue_at new x) c
    → IsNext (holder_at old x) (queue_at old x) c
next_back old new x c holder queue next = record { behind = next.behind; first = sym queue ∙ next.first; together = λ s mode holds. next.together s mode (holder s ∙ holds) }

-- nobody has come or gone but at x, which is listed
pub listed_but : (old new : List (Option LockView)) (flags : List Bool) (x : ℕ) → is_flagged flags x ≡ true → ((y : ℕ) → is_owned new y ≡ is_owned old y) → ((y : ℕ) → y ≢ x → (s : ScopeId) → holder_at new y s ≡ holder_at old y s)
    → ((y : ℕ) → y ≢ x → queue_at new y ≡ queue_at old y) → ListsGrantable old flags → ListsGrantable new flags
listed_but old new flags x here owned holder queue are = record {
  owned = λ y flagged. owned y ∙ are.owned y flagged;
  waits = λ y c next. ⊎_elim
      (λ (same : y ≡ x). ap (is_flagged flags) same ∙ here)
      (λ (other : y ≢ x). are.waits y c (next_back old new y c (holder y other) (queue y other) next))
      (cases_eq y x);
}

-- x is listed besides
pub listed_more : (table : List (Option LockView)) (flags : List Bool) (x : ℕ) → x < length flags → is_owned table x ≡ true → ListsGrantable table flags → ListsGrantable table (slice_set flags x true)
listed_more table flags x inside owned are = record {
  owned = λ y flagged. ⊎_elim
      (λ (same : y ≡ x). ap (is_owned table) same ∙ owned)
      (λ (other : y ≢ x). are.owned y (sym (get_or-set_other flags x y true false other) ∙ flagged))
      (cases_eq y x);
  waits = λ y c next. ⊎_elim
      (λ (same : y ≡ x). ap (is_flagged (slice_set flags x true)) same ∙ get_or-set_same flags x true false inside)
      (λ (other : y ≢ x). get_or-set_other flags x y true false other ∙ are.waits y c next)
      (cases_eq y x);
}

pub listed_asked : (old new : List (Option LockView)) (flags : List Bool) (x : ℕ) (c : Claim) → x < length flags → is_owned old x ≡ true → HasAsked old new x c → ListsGrantable old flags → ListsGrantable new (slice_set flags x true)
listed_asked old new flags x c inside owned has are =
    listed_but old new (slice_set flags x true) x (get_or-set_same flags x true false inside) has.owned
    (λ y other s. has.holder y s)
    (λ y other. has.queue y ∙ rw (ne_eqb y x other) refl)
    (listed_more old flags x inside owned are)

pub listed_released : (old new : List (Option LockView)) (flags : List Bool) (x : ℕ) (s : ScopeId) → x < length flags → is_owned old x ≡ true → HasReleased old new x s → ListsGrantable old flags → ListsGrantable new (slice_set flags x true)
listed_released old new flags x s inside owned has are =
    listed_but old new (slice_set flags x true) x (get_or-set_same flags x true false inside) has.owned
    (λ y other t. has.holder y t ∙ rw (ne_eqb y x other) refl)
    (λ y other. has.queue y)
    (listed_more old flags x inside owned are)

-- nobody has come or gone but at x, where nobody waits
listed_none : (old new : List (Option LockView)) (flags : List Bool) (x : ℕ) → queue_at new x ≡ [] → ((y : ℕ) → is_owned new y ≡ is_owned old y) → ((y : ℕ) → y ≢ x → (s : ScopeId) → holder_at new y s ≡ holder_at old y s)
    → ((y : ℕ) → y ≢ x → queue_at new y ≡ queue_at old y) → ListsGrantable old flags → ListsGrantable new flags
listed_none old new flags x none owned holder queue are = record {
  owned = λ y flagged. owned y ∙ are.owned y flagged;
  waits = λ y c next. ⊎_elim
      (λ (same : y ≡ x). absurd (none_first c next.behind (sym none ∙ (sym (ap (queue_at new) same) ∙ next.first))))
      (λ (other : y ≢ x). are.waits y c (next_back old new y c (holder y other) (queue y other) next))
      (cases_eq y x);
}

-- a claim went for which nobody waits
pub listed_left : (old new : List (Option LockView)) (flags : List Bool) (x : ℕ) (s : ScopeId) → queue_at new x ≡ [] → HasReleased old new x s → ListsGrantable old flags → ListsGrantable new flags
listed_left old new flags x s none has are =
    listed_none old new flags x none has.owned (λ y other t. has.holder y t ∙ rw (ne_eqb y x other) refl) (λ y other. has.queue y) are

-- a claim came where there was none
pub listed_free_taken : (old new : List (Option LockView)) (flags : List Bool) (x : ℕ) (c : Claim) → HasTakenFree old new x c → ListsGrantable old flags → ListsGrantable new flags
listed_free_taken old new flags x c has are =
    let asked_here : queue_at (asked_at old x c) x ≡ c ∷ [] = has.asked.queue x ∙ rw (eq-eqb x x refl) (ap (λ (q : List Claim). q ++ c ∷ []) has.free.none_waits) in
    listed_none old new flags x
    (has.taken.queue x ∙ rw (eq-eqb x x refl) (ap (drop 1) asked_here))
    (λ y. has.taken.owned y ∙ has.asked.owned y)
    (λ y other s. has.taken.holder y s ∙ (rw (ne_eqb y x other) refl) ∙ has.asked.holder y s)
    (λ y other. has.taken.queue y ∙ (rw (ne_eqb y x other) refl) ∙ has.asked.queue y ∙ (rw (ne_eqb y x other) refl))
    are

pub listed_taken : (old new : List (Option LockView)) (flags : List Bool) (x : ℕ) (c : Claim) → IsNext (holder_at old x) (queue_at old x) c → HasTaken old new x c → ListsGrantable old flags → ListsGrantable new flags
listed_taken old new flags x c next has are =
    listed_but old new flags x (are.waits x c next) has.owned
    (λ y other t. has.holder y t ∙ rw (ne_eqb y x other) refl)
    (λ y other. has.queue y ∙ rw (ne_eqb y x other) refl)
    are

pub listed_room : (old new : List (Option LockView)) (flags : List Bool) (x : ℕ) → HasRoomFor old new x → ListsGrantable old flags → ListsGrantable new flags
listed_room old new flags x has are = record {
  owned = λ y flagged. has.owned y ∙ are.owned y flagged;
  waits = λ y c next. are.waits y c (next_back old new y c (has.holder y) (has.queue y) next);
}

pub listed_free : (table : List (Option LockView)) (flags : List Bool) → IsUnclaimed table → ((x : ℕ) → is_flagged flags x ≡ true → is_owned table x ≡ true) → ListsGrantable table flags
listed_free table flags free owned = record {
  owned = owned;
  waits = λ x c next. absurd (none_first c next.behind (sym (free.queue x) ∙ next.first));
}

-- ---- the list grows shorter

counted_if : Bool → ℕ
counted_if b = if b then 1 else 0

-- how many are listed
pub count_listed : List Bool → ℕ
count_listed flags = sum_by counted_if flags

pub listed_inside : (flags : List Bool) (x : ℕ) → is_flagged flags x ≡ true → x < length flags
listed_inside [] x flagged = absurd (true≢false (sym flagged))
listed_inside (f ∷ flags) zero flagged = omega arith
listed_inside (f ∷ flags) (suc x) flagged = let inside = listed_inside flags x flagged in omega arith

pub fewer_listed : (flags : List Bool) (x : ℕ) → is_flagged flags x ≡ true → count_listed (slice_set flags x false) < count_listed flags
unfolding count_listed counted_if
fewer_listed flags x flagged =
    let inside = listed_inside flags x flagged in
    let was : counted_if (slice_index_or flags x false) ≡ 1 = ap counted_if flagged in
    let sum = sum_by-set counted_if flags x false false inside in
    omega arith

-- a vertex whose lock wouldn't be granted is listed no more
pub listed_less : (table : List (Option LockView)) (flags : List Bool) (x : ℕ) → x < length flags → (IsGrantable table x → ⊥) → ListsGrantable table flags → ListsGrantable table (slice_set flags x false)
listed_less table flags x inside not are = record {
  owned = λ y flagged. ⊎_elim
      (λ (same : y ≡ x). absurd (true≢false (sym flagged ∙ ap (is_flagged (slice_set flags x false)) same ∙ get_or-set_same flags x false false inside)))
      (λ (other : y ≢ x). are.owned y (sym (get_or-set_other flags x y false false other) ∙ flagged))
      (cases_eq y x);
  waits = λ y c next. ⊎_elim
      (λ (same : y ≡ x). absurd (not (here y c next same)))
      (λ (other : y ≢ x). get_or-set_other flags x y false false other ∙ are.waits y c next)
      (cases_eq y x);
}
  where
    here : (y : ℕ) (c : Claim) → IsNext (holder_at table y) (queue_at table y) c → y ≡ x → IsGrantable table x
    here y c next same = subst (IsGrantable table) same (record { owned = are.owned y (are.waits y c next); claim = c; next = next })

-- ---- the table

with_table : (places : List ℕ) (locks after : List LockView) (flags more : List Bool) → length after ≡ length locks → length more ≡ length flags → IsTable places locks flags → ListsGrantable (table_of places after) more → IsTable places after more
with_table places locks after flags more many long is listed = record { apart = subst (ArePlacesApart places) (sym many) is.apart; many = long ∙ is.many; listed = listed }

-- a flag stands for each vertex that has a lock
flag_inside : (places : List ℕ) (locks : List LockView) (flags : List Bool) (x : ℕ) → IsTable places locks flags → is_owned (table_of places locks) x ≡ true → x < length flags
flag_inside places locks flags x is owned =
    let inside = owned_inside (table_of places locks) x owned in
    let long = length-map places (lock_there locks) in
    let many = is.many in
    omega arith

module _ (places : List ℕ) (locks after : List LockView) (table : List (Option LockView)) (flags : List Bool) (seen : table_of places locks ≡ table) (many : length after ≡ length locks) (is : IsTable places locks flags) where
  was_listed : ListsGrantable table flags
  was_listed = subst (λ (t : List (Option LockView)). ListsGrantable t flags) seen is.listed

  pub owned_flag : (x : ℕ) → is_owned table x ≡ true → x < length flags
  owned_flag x owned = flag_inside places locks flags x is (ap (λ (t : List (Option LockView)). is_owned t x) seen ∙ owned)

  pub table_asked : (more : List Bool) (x : ℕ) (c : Claim) → more ≡ slice_set flags x true → is_owned table x ≡ true → HasAsked table (table_of places after) x c → IsTable places after more
  table_asked more x c added owned has =
      with_table places locks after flags more many (ap length added ∙ length-set flags x true) is
      (subst (ListsGrantable (table_of places after)) (sym added) (listed_asked table (table_of places after) flags x c (owned_flag x owned) owned has was_listed))

  pub table_released : (more : List Bool) (queue : List Claim) (x : ℕ) (s : ScopeId) → queue ≡ queue_at (table_of places after) x → IsListedAgain queue flags x more → is_owned table x ≡ true → HasReleased table (table_of places after) x s
      → IsTable places after more
  table_released more [] x s waiting added owned has =
      with_table places locks after flags more many (ap length added) is
      (subst (ListsGrantable (table_of places after)) (sym added) (listed_left table (table_of places after) flags x s (sym waiting) has was_listed))
  table_released more (c ∷ queue) x s waiting added owned has =
      let some : 0 < length (c ∷ queue) = omega arith in
      let put : more ≡ slice_set flags x true = added ∙ rw (lt-ltb 0 (length (c ∷ queue)) some) refl in
      with_table places locks after flags more many (ap length put ∙ length-set flags x true) is
      (subst (ListsGrantable (table_of places after)) (sym put) (listed_released table (table_of places after) flags x s (owned_flag x owned) owned has was_listed))

  pub table_room : (x : ℕ) → HasRoomFor table (table_of places after) x → IsTable places after flags
  table_room x has = with_table places locks after flags flags many refl is (listed_room table (table_of places after) flags x has was_listed)

  pub table_granted : (x : ℕ) (turn : Turn) → IsTurn (holder_at table x) (queue_at table x) turn → HasGranted table (table_of places after) x turn → IsTable places after flags
  table_granted x (Granted c) next has = with_table places locks after flags flags many refl is (listed_taken table (table_of places after) flags x c next has was_listed)
  table_granted x Waiting next same = with_table places locks after flags flags many refl is (subst (λ (t : List (Option LockView)). ListsGrantable t flags) (sym same) was_listed)

  pub table_free_taken : (x : ℕ) (c : Claim) → HasTakenFree table (table_of places after) x c → IsTable places after flags
  table_free_taken x c has = with_table places locks after flags flags many refl is (listed_free_taken table (table_of places after) flags x c has was_listed)

  pub table_same : table_of places after ≡ table → IsTable places after flags
  table_same same = with_table places locks after flags flags many refl is (subst (λ (t : List (Option LockView)). ListsGrantable t flags) (sym same) was_listed)

  pub table_reset : ((k : ℕ) → IsFree (slice_index_or after k no_lock)) → IsTable places after flags
  table_reset free = with_table places locks after flags flags many refl is
      (listed_free (table_of places after) flags (unclaimed places after free) (λ x flagged. owned_reset places locks after many x ∙ is.listed.owned x flagged))

pub table_made : (places : List ℕ) (locks : List LockView) (flags : List Bool) → ArePlacesApart places (length locks) → length flags ≡ length places → ((k : ℕ) → IsFree (slice_index_or locks k no_lock)) → ((u : ℕ) → is_flagged flags u ≡ false) → IsTable places locks flags
table_made places locks flags apart many free none = record {
  apart = apart;
  many = many;
  listed = listed_free (table_of places locks) flags (unclaimed places locks free) (λ x flagged. absurd (true≢false (sym flagged ∙ none x)));
}

-- a vertex whose lock wouldn't be granted leaves the list
pub table_less : (places : List ℕ) (locks : List LockView) (flags less : List Bool) (x : ℕ) → less ≡ slice_set flags x false → is_flagged flags x ≡ true → (IsGrantable (table_of places locks) x → ⊥) → IsTable places locks flags → IsTable places locks less
table_less places locks flags less x gone flagged not is =
    with_table places locks locks flags less refl (ap length gone ∙ length-set flags x false) is
    (subst (ListsGrantable (table_of places locks)) (sym gone) (listed_less (table_of places locks) flags x (listed_inside flags x flagged) not is.listed))

-- where none is listed no lock would be granted
pub none_grantable : (table : List (Option LockView)) (flags : List Bool) → ListsGrantable table flags → ((u : ℕ) → is_flagged flags u ≡ false) → (x : ℕ) → IsGrantable table x → ⊥
none_grantable table flags are none x can = true≢false (sym (are.waits x can.claim can.next) ∙ none x)

-- ---- whether a lock would be granted

-- what is read at the place of x is its lock
pub read_there : (places : List ℕ) (locks : List LockView) (x : ℕ) (l : LockView) → is_owned (table_of places locks) x ≡ true → l ≡ slice_index_or locks (slice_index places x) no_lock → l ≡ lock_at (table_of places locks) x
read_there places locks x l owned read =
    let p = slice_index places x in
    is_read places locks (table_of places locks) x p l refl owned (sym (get_or_default places x p 0 (is_placed places locks x owned).vertex)) read

pub grants_some : (table : List (Option LockView)) (x : ℕ) (l : LockView) (o : Option Claim) → is_owned table x ≡ true → l ≡ lock_at table x → IfSome o (λ c. IsNext (mode_of l.holders) l.queue c) → is_some o ≡ true → IsGrantable table x
grants_some table x l None owned read next some = absurd (true≢false (sym some))
grants_some table x l (Some c) owned read next some = record { owned = owned; claim = c; next = subst (λ (k : LockView). IsNext (mode_of k.holders) k.queue c) read next }

none_where : (o : Option Claim) → is_some o ≡ false → o ≡ None
none_where None is = refl
none_where (Some c) is = absurd (true≢false is)

pub grants_none : (table : List (Option LockView)) (x : ℕ) (l : LockView) (o : Option Claim) → l ≡ lock_at table x → (o ≡ None → (c : Claim) → IsNext (mode_of l.holders) l.queue c → ⊥) → is_some o ≡ false → IsGrantable table x → ⊥
grants_none table x l o read none not can = none (none_where o not) can.claim (subst (λ (k : LockView). IsNext (mode_of k.holders) k.queue can.claim) (sym read) can.next)

-- ---- more locks are kept

pub made_more : (places : List ℕ) (old new : LockList) (flags : List Bool) (claimed : ℕ) → locks_in new ≡ locks_in old → length new.kept.items ≤ new.many → new.free ≡ old.free → IsCountedTable places old flags claimed → IsCountedTable places new flags claimed
made_more places old new flags claimed same few free is = record {
  table = subst (λ (locks : List LockView). IsTable places locks flags) (sym same) is.table;
  counted = is.counted ∙ sym (ap (λ (locks : List LockView). count_claimed (table_of places locks)) same);
  few = few;
  free = free ∙ is.free;
}
