-- One lock of a row is changed.
use Rattle.std.proofs.Common.{◌≡◌, ◌≢◌, ℕ, ◌<◌, ◌==◌, ◌||◌, Bool, true, false, if◌then◌else◌, Option, None, Some, IfSome, List, [], ◌∷◌, ◌++◌, length, slice_index_or, slice_set, refl, sym, ◌∙◌, ap, subst, ⊎_elim, arith, eq-eqb, ne_eqb, get_or-set_same, get_or-set_other}
use Rattle.std.specs.List.{All}
use Rattle.std.proofs.Math.ListN.{length-set}
use Rattle.std.proofs.lemmas.Bool.{both_ways, cases_Bool, cases_eq}
use Rattle.std.proofs.lemmas.List.Folds.{list_any-append}
use Rattle.std.proofs.lemmas.Option.{IfSome_then}
use Rattle.gl_base.specs.declared.numbers.Vertex.{Vertex}
use Rattle.gl_base.specs.declared.scopes.ScopeId.{ScopeId}
use Rattle.gl_base.specs.scope_lists.Scopes.{is_scope, set_at, set_for}
use Rattle.gl_base.proofs.scope_lists.SameScope.{one_or_two, same_scope, set_for-here, set_for-there}
use Rattle.full_cluster.specs.declared.locks.WholeLock.{WholeLock}
use Rattle.full_cluster.specs.WholeLocks.{AreLocksOf, HasGrantedNext, HasRoomAt, HasRoomToWait, IsFirstOf, IsFreed, IsGrantedTo, IsLockOf, IsNextOf, IsUngrantable, has_vertex, holds_lock, released_of}

-- ---- one lock

-- one scope more than nobody
one_more : (holds : ScopeId → Bool) (s t : ScopeId) → ((r : ScopeId) → holds r ≡ false) → set_for holds s true t ≡ is_scope t s
one_more holds s t none = ⊎_elim
    (λ (yes : is_scope t s ≡ true). rw yes refl)
    (λ (no : is_scope t s ≡ false). rw no (none t))
    (cases_Bool (is_scope t s))

pub first_one : (lock : WholeLock) (holds : ScopeId → Bool) (queue : List ScopeId) (s : ScopeId) → IsLockOf lock holds queue → IsFirstOf lock s → IsNextOf holds queue s
first_one lock holds queue s is first =
    record { behind = first.behind; first = is.waiting ∙ first.first; free = λ t. is.holders t ∙ ap (λ (o : Option ScopeId). holds_lock o t) first.free }

pub granted_one : (old new : WholeLock) (holds : ScopeId → Bool) (queue : List ScopeId) (s : ScopeId) → IsLockOf old holds queue → IsGrantedTo old new s →
    (next : IsNextOf holds queue s) × IsLockOf new (set_for holds s true) next.behind
granted_one old new holds queue s is granted =
    let free : (t : ScopeId) → holds t ≡ false = λ t. is.holders t ∙ ap (λ (o : Option ScopeId). holds_lock o t) granted.free in (
      record { behind = new.queue.items; first = is.waiting ∙ granted.first; free = free },
      record { holders = λ t. one_more holds s t free ∙ sym (ap (λ (o : Option ScopeId). holds_lock o t) granted.holder); waiting = refl },
    )

pub never_one : (lock : WholeLock) (holds : ScopeId → Bool) (queue : List ScopeId) → IsLockOf lock holds queue → IsUngrantable lock → (s : ScopeId) → IsNextOf holds queue s → ⊥
never_one lock holds queue is cannot s next = ⊎_elim
    (λ (held : (holder : ScopeId) × (lock.holder ≡ Some holder)).
    both_ways (holds held.0) (next.free held.0) (is.holders held.0 ∙ ap (λ (o : Option ScopeId). holds_lock o held.0) held.1 ∙ same_scope held.0))
    (λ (empty : lock.queue.items ≡ []). none_first s next.behind (sym empty ∙ sym is.waiting ∙ next.first))
    cannot
  where
    none_first : (s : ScopeId) (behind : List ScopeId) → [] ≡ s ∷ behind → ⊥
    none_first s behind is = cc

-- who holds the lock when the scope has released it
pub freed_holder : (o : Option ScopeId) (s t : ScopeId) → holds_lock (if holds_lock o s then None else o) t ≡ set_for (holds_lock o) s false t
freed_holder None s t = ⊎_elim
    (λ (yes : is_scope t s ≡ true). rw yes refl)
    (λ (no : is_scope t s ≡ false). rw no refl)
    (cases_Bool (is_scope t s))
freed_holder (Some holder) s t = ⊎_elim
    (λ (same : s ≡ holder). subst (λ (r : ScopeId). holds_lock (if is_scope r holder then None else Some holder) t ≡ set_for (λ (u : ScopeId). is_scope u holder) r false t) (sym same)
    (ap (λ test. holds_lock (if test then None else Some holder) t) (same_scope holder) ∙ none_left (is_scope t holder)))
    (λ (apart : is_scope s holder ≡ false).
    ap (λ test. holds_lock (if test then None else Some holder) t) apart ∙ ⊎_elim
    (λ (its : t ≡ s). subst (λ (r : ScopeId). is_scope r holder ≡ set_for (λ (u : ScopeId). is_scope u holder) s false r) (sym its) (apart ∙ sym (set_for-here (λ (u : ScopeId). is_scope u holder) s false)))
    (λ (other : is_scope t s ≡ false). sym (set_for-there (λ (u : ScopeId). is_scope u holder) s t false other))
    (one_or_two t s))
    (one_or_two s holder)
  where
    none_left : (b : Bool) → false ≡ (if b then false else b)
    none_left true = refl
    none_left false = refl

pub freed_one : (old new : WholeLock) (holds : ScopeId → Bool) (queue : List ScopeId) (s : ScopeId) → IsLockOf old holds queue → IsFreed old new s → IsLockOf new (set_for holds s false) queue
freed_one old new holds queue s is freed =
    record {
      holders = λ t. ap (λ (held : ScopeId → Bool). set_for held s false t) (λ k r. is.holders r k) ∙ sym (freed_holder old.holder s t) ∙ sym (ap (λ (o : Option ScopeId). holds_lock o t) freed.holder);
      waiting = is.waiting ∙ (λ k. (sym freed.queue k).items);
    }

-- ---- one of many

pub lock_set : (locks : List WholeLock) (x : ℕ) (new : WholeLock) (holds : ℕ → ScopeId → Bool) (queue : ℕ → List ScopeId) (h : ScopeId → Bool) (q : List ScopeId) → x < length locks → AreLocksOf locks holds queue → IsLockOf new h q →
    AreLocksOf (slice_set locks x new) (set_at holds x h) (set_at queue x q)
lock_set locks x new holds queue h q low are is =
    record {
      each = λ y d inside. ⊎_elim
          (λ (at : y ≡ x). subst (λ (k : ℕ). IsLockOf (slice_index_or (slice_set locks x new) k d) (set_at holds x h k) (set_at queue x q k)) (sym at)
          (rw (eq-eqb x x refl, get_or-set_same locks x new d low) is))
          (λ (off : y ≢ x). let long = length-set locks x new in let early : y < length locks = omega arith in
          rw (ne_eqb y x off, get_or-set_other locks x y new d off) (are.each y d early))
          (cases_eq y x);
    }

-- the same locks, said otherwise
pub locks_alike : (locks : List WholeLock) (holds held : ℕ → ScopeId → Bool) (queue waits : ℕ → List ScopeId) → ((y : ℕ) (t : ScopeId) → held y t ≡ holds y t) → ((y : ℕ) → waits y ≡ queue y) → AreLocksOf locks holds queue → AreLocksOf locks held waits
locks_alike locks holds held queue waits same again are =
    record { each = λ y d inside. let is = are.each y d inside in record { holders = λ t. same y t ∙ is.holders t; waiting = again y ∙ is.waiting } }

unset : {X : Type 0} (f : ℕ → X) (x y : ℕ) → f y ≡ set_at f x (f x) y
unset f x y = ⊎_elim
    (λ (at : y ≡ x). rw (eq-eqb y x at) (ap f at))
    (λ (off : y ≢ x). rw (ne_eqb y x off) refl)
    (cases_eq y x)

-- nobody else holds the lock, or only others wait for it
pub lock_waits : (locks : List WholeLock) (x : ℕ) (new : WholeLock) (holds : ℕ → ScopeId → Bool) (queue : ℕ → List ScopeId) (q : List ScopeId) → x < length locks → AreLocksOf locks holds queue → IsLockOf new (holds x) q →
    AreLocksOf (slice_set locks x new) holds (set_at queue x q)
lock_waits locks x new holds queue q low are is =
    locks_alike (slice_set locks x new) (set_at holds x (holds x)) holds (set_at queue x q) (set_at queue x q) (λ y t. ap (λ (row : ScopeId → Bool). row t) (unset holds x y)) (λ y. refl) (lock_set locks x new holds queue (holds x) q low are is)

pub lock_same : (locks : List WholeLock) (x : ℕ) (new : WholeLock) (holds : ℕ → ScopeId → Bool) (queue : ℕ → List ScopeId) → x < length locks → AreLocksOf locks holds queue → IsLockOf new (holds x) (queue x) →
    AreLocksOf (slice_set locks x new) holds queue
lock_same locks x new holds queue low are is =
    locks_alike (slice_set locks x new) holds holds (set_at queue x (queue x)) queue (λ y t. refl) (λ y. unset queue x y) (lock_waits locks x new holds queue (queue x) low are is)

pub lock_granted : (locks : List WholeLock) (x : ℕ) (old new : WholeLock) (holds : ℕ → ScopeId → Bool) (queue : ℕ → List ScopeId) (o : Option ScopeId) → x < length locks → old ≡ slice_index_or locks x old → AreLocksOf locks holds queue → IfSome o (λ s. IsGrantedTo old new s) →
    IfSome o (HasGrantedNext (slice_set locks x new) holds queue x)
lock_granted locks x old new holds queue o low at are granted = IfSome_then o granted
    (λ s is.
    let before : IsLockOf old (holds x) (queue x) = subst (λ (lock : WholeLock). IsLockOf lock (holds x) (queue x)) (sym at) (are.each x old low) in
    let one = granted_one old new (holds x) (queue x) s before is in
    record { next = one.0; after = lock_set locks x new holds queue (set_for (holds x) s true) one.0.behind low are one.1 })

-- ---- all locks of a scope

any_one : (a b : Bool) → (a || (b || false)) ≡ (a || b)
any_one true b = refl
any_one false true = refl
any_one false false = refl

released_twice : (holds : ScopeId → Bool) (has : Bool) (s t : ScopeId) → set_for holds s false t ≡ set_for (if has then set_for holds s false else holds) s false t
released_twice holds true s t = ⊎_elim
    (λ (yes : is_scope t s ≡ true). rw yes refl)
    (λ (no : is_scope t s ≡ false). rw no refl)
    (cases_Bool (is_scope t s))
released_twice holds false s t = refl

pub one_released : (pairs : List (Vertex × ℕ)) (pair : Vertex × ℕ) (s : ScopeId) (holds : ℕ → ScopeId → Bool) (y : ℕ) (t : ScopeId) →
    released_of (pairs ++ pair ∷ []) s holds y t ≡ set_at (released_of pairs s holds) pair.0.0 (set_for (released_of pairs s holds pair.0.0) s false) y t
one_released pairs pair s holds y t =
    ap (λ (b : Bool). (if b then set_for (holds y) s false else holds y) t) (list_any-append (λ (p : Vertex × ℕ). p.0.0 == y) pairs (pair ∷ []) ∙ any_one (has_vertex pairs y) (pair.0.0 == y))
    ∙ ⊎_elim
    (λ (at : y ≡ pair.0.0).
    ap (λ (b : Bool). (if has_vertex pairs y || b then set_for (holds y) s false else holds y) t) (eq-eqb pair.0.0 y (sym at))
    ∙ ap (λ (b : Bool). (if b then set_for (holds y) s false else holds y) t) (or_yes (has_vertex pairs y))
    ∙ released_twice (holds y) (has_vertex pairs y) s t
    ∙ ap (λ (k : ℕ). set_for (released_of pairs s holds k) s false t) at
    ∙ ap (λ (b : Bool). (if b then set_for (released_of pairs s holds pair.0.0) s false else released_of pairs s holds y) t) (sym (eq-eqb y pair.0.0 at)))
    (λ (off : y ≢ pair.0.0).
    ap (λ (b : Bool). (if has_vertex pairs y || b then set_for (holds y) s false else holds y) t) (ne_eqb pair.0.0 y (λ is. off (sym is)))
    ∙ ap (λ (b : Bool). (if b then set_for (holds y) s false else holds y) t) (or_no (has_vertex pairs y))
    ∙ ap (λ (b : Bool). (if b then set_for (released_of pairs s holds pair.0.0) s false else released_of pairs s holds y) t) (sym (ne_eqb y pair.0.0 off)))
    (cases_eq y pair.0.0)
  where
    or_yes : (a : Bool) → (a || true) ≡ true
    or_yes true = refl
    or_yes false = refl

    or_no : (a : Bool) → (a || false) ≡ a
    or_no true = refl
    or_no false = refl

pub lock_released : (locks : List WholeLock) (pairs : List (Vertex × ℕ)) (pair : Vertex × ℕ) (old new : WholeLock) (s : ScopeId) (holds : ℕ → ScopeId → Bool) (queue : ℕ → List ScopeId) → pair.0.0 < length locks → old ≡ slice_index_or locks pair.0.0 old →
    AreLocksOf locks (released_of pairs s holds) queue → IsFreed old new s → AreLocksOf (slice_set locks pair.0.0 new) (released_of (pairs ++ pair ∷ []) s holds) queue
lock_released locks pairs pair old new s holds queue low at are freed =
    let x : ℕ = pair.0.0 in
    let held : ℕ → ScopeId → Bool = released_of pairs s holds in
    let before : IsLockOf old (held x) (queue x) = subst (λ (lock : WholeLock). IsLockOf lock (held x) (queue x)) (sym at) (are.each x old low) in
    locks_alike (slice_set locks x new) (set_at held x (set_for (held x) s false)) (released_of (pairs ++ pair ∷ []) s holds) (set_at queue x (queue x)) queue
    (λ y t. one_released pairs pair s holds y t) (λ y. unset queue x y)
    (lock_set locks x new held queue (set_for (held x) s false) (queue x) low are (freed_one old new (held x) (queue x) s before freed))

-- ---- what a call on one lock does to the row

pub lock_at : (locks : List WholeLock) (x : ℕ) (lock : WholeLock) (holds : ℕ → ScopeId → Bool) (queue : ℕ → List ScopeId) → x < length locks → lock ≡ slice_index_or locks x lock → AreLocksOf locks holds queue → IsLockOf lock (holds x) (queue x)
lock_at locks x lock holds queue low at are = subst (λ (l : WholeLock). IsLockOf l (holds x) (queue x)) (sym at) (are.each x lock low)

pub kept_one : (old new : WholeLock) (holds : ScopeId → Bool) (queue : List ScopeId) → IsLockOf old holds queue → new.holder ≡ old.holder → new.queue.items ≡ old.queue.items → IsLockOf new holds queue
kept_one old new holds queue is holder items =
    record { holders = λ t. is.holders t ∙ ap (λ (o : Option ScopeId). holds_lock o t) (sym holder); waiting = is.waiting ∙ sym items }

pub waits_one : (old new : WholeLock) (holds : ScopeId → Bool) (queue : List ScopeId) (s : ScopeId) → IsLockOf old holds queue → new.holder ≡ old.holder → new.queue.items ≡ old.queue.items ++ s ∷ [] → IsLockOf new holds (queue ++ s ∷ [])
waits_one old new holds queue s is holder items =
    record { holders = λ t. is.holders t ∙ ap (λ (o : Option ScopeId). holds_lock o t) (sym holder); waiting = ap (λ (waiting : List ScopeId). waiting ++ s ∷ []) is.waiting ∙ sym items }

pub room_set : (locks : List WholeLock) (x : ℕ) (new : WholeLock) → x < length locks → HasRoomToWait new → HasRoomAt (slice_set locks x new) x
room_set locks x new low room = λ d. rw (get_or-set_same locks x new d low) room

pub room_kept : (locks : List WholeLock) (x y : ℕ) (old new : WholeLock) → x < length locks → old ≡ slice_index_or locks x old → (HasRoomToWait old → HasRoomToWait new) → HasRoomAt locks y → HasRoomAt (slice_set locks x new) y
room_kept locks x y old new low at keeps room = λ d. ⊎_elim
    (λ (is : y ≡ x).
    let there : HasRoomToWait old = subst HasRoomToWait (sym (at ∙ ap (λ (k : ℕ). slice_index_or locks k old) (sym is))) (room old) in
    subst (λ (k : ℕ). HasRoomToWait (slice_index_or (slice_set locks x new) k d)) (sym is) (room_set locks x new low (keeps there) d))
    (λ (off : y ≢ x). rw (get_or-set_other locks x y new d off) (room d))
    (cases_eq y x)

pub locks_free : (locks : List WholeLock) → All (λ (lock : WholeLock). (lock.holder ≡ None) × (lock.queue.items ≡ [])) locks → AreLocksOf locks (λ x s. false) (λ x. [])
locks_free locks free =
    record {
      each = λ x d inside. let is = free x d inside in record { holders = λ s. sym (ap (λ (o : Option ScopeId). holds_lock o s) is.0); waiting = sym is.1 };
    }
