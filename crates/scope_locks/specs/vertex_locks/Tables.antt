-- The locks of a machine's vertices, by the vertex's number.
use Rattle.std.specs.Prelude.{◌≡◌, ℕ, ◌-◌, ◌<◌, ◌≤◌, Bool, true, Option, Some, None, is_some, List, [], ◌∷◌, ◌++◌, length, drop, map, slice_index_or, slice_set, nat_lt, if◌then◌else◌}
use Rattle.gl_base.specs.declared.scopes.Claim.{Claim}
use Rattle.gl_base.specs.declared.scopes.Mode.{Mode}
use Rattle.gl_base.specs.declared.scopes.ScopeId.{ScopeId}
use Rattle.gl_base.specs.scope_lists.Scopes.{set_for, set_at}
use Rattle.scope_locks.specs.declared.vertex_locks.turns.Turn.{Turn}
use Rattle.scope_locks.specs.declared.vertex_locks.turns.Turn.TheVariants.{Granted, Waiting}
use Rattle.scope_locks.specs.vertex_locks.Locks.{LockView, mode_of, requested, released, IsNext, IsFreeLock}

abbrev pub no_lock : LockView
no_lock = record { holders = []; queue = []; room = 0 }

abbrev pub lock_or : Option LockView → LockView
lock_or None = no_lock
lock_or (Some l) = l

-- the lock of x, where the table has one
abbrev pub lock_at : List (Option LockView) → ℕ → LockView
lock_at table x = lock_or (slice_index_or table x None)

-- ---- what is asked of a table

-- the table has a lock for x
abbrev pub is_owned : List (Option LockView) → ℕ → Bool
is_owned table x = is_some (slice_index_or table x None)

-- how each scope holds the lock of x
abbrev pub holder_at : List (Option LockView) → ℕ → ScopeId → Option Mode
holder_at table x = mode_of (lock_at table x).holders

-- who waits for the lock of x, the first first
abbrev pub queue_at : List (Option LockView) → ℕ → List Claim
queue_at table x = (lock_at table x).queue

-- for how many more claims to the lock of x there is room
abbrev pub room_at : List (Option LockView) → ℕ → ℕ
room_at table x = (lock_at table x).room

-- ---- what becomes of a table

-- the claim waits for the lock of x behind the others
pub record HasAsked (old new : List (Option LockView)) (x : ℕ) (c : Claim) : Type 0 where
  pub owned : (y : ℕ) → is_owned new y ≡ is_owned old y
  pub holder : (y : ℕ) (s : ScopeId) → holder_at new y s ≡ holder_at old y s
  pub queue : (y : ℕ) → queue_at new y ≡ set_at (queue_at old) x (queue_at old x ++ c ∷ []) y
  pub room : (y : ℕ) → room_at new y ≡ set_at (room_at old) x (room_at old x - 1) y

-- the claim, the first that waited for the lock of x, holds it
pub record HasTaken (old new : List (Option LockView)) (x : ℕ) (c : Claim) : Type 0 where
  pub owned : (y : ℕ) → is_owned new y ≡ is_owned old y
  pub holder : (y : ℕ) (s : ScopeId) → holder_at new y s ≡ set_at (holder_at old) x (set_for (holder_at old x) c.scope (Some c.mode)) y s
  pub queue : (y : ℕ) → queue_at new y ≡ set_at (queue_at old) x (drop 1 (queue_at old x)) y
  pub room : (y : ℕ) → room_at new y ≡ room_at old y

-- the table when the claim has asked for the lock of x
abbrev pub asked_at : List (Option LockView) → ℕ → Claim → List (Option LockView)
asked_at table x c = slice_set table x (Some (requested c (lock_at table x)))

-- nobody claimed the lock of x, and there was room: the claim has asked for it, and then holds it
pub record HasTakenFree (old new : List (Option LockView)) (x : ℕ) (c : Claim) : Type 0 where
  pub free : IsFreeLock (holder_at old x) (queue_at old x)
  pub room : 0 < room_at old x
  pub asked : HasAsked old (asked_at old x c) x c
  pub taken : HasTaken (asked_at old x c) new x c

-- the scope holds the lock of x no more
pub record HasReleased (old new : List (Option LockView)) (x : ℕ) (s : ScopeId) : Type 0 where
  pub owned : (y : ℕ) → is_owned new y ≡ is_owned old y
  pub holder : (y : ℕ) (t : ScopeId) → holder_at new y t ≡ set_at (holder_at old) x (set_for (holder_at old x) s None) y t
  pub queue : (y : ℕ) → queue_at new y ≡ queue_at old y

-- the table when the scope has let the lock of x go
abbrev pub released_at : List (Option LockView) → ℕ → ScopeId → List (Option LockView)
released_at table x s = slice_set table x (Some (released s (lock_at table x)))

-- there is room for one more claim to the lock of x, and no claim has changed
pub record HasRoomFor (old new : List (Option LockView)) (x : ℕ) : Type 0 where
  pub owned : (y : ℕ) → is_owned new y ≡ is_owned old y
  pub holder : (y : ℕ) (s : ScopeId) → holder_at new y s ≡ holder_at old y s
  pub queue : (y : ℕ) → queue_at new y ≡ queue_at old y
  pub room : (y : ℕ) → room_at old y ≤ room_at new y

-- nobody claims a lock
pub record IsUnclaimed (table : List (Option LockView)) : Type 0 where
  pub holder : (x : ℕ) (s : ScopeId) → holder_at table x s ≡ None
  pub queue : (x : ℕ) → queue_at table x ≡ []

-- what `grant` answers: the first that waits, exactly where it goes together with each holder
abbrev pub IsTurn : (ScopeId → Option Mode) → List Claim → Turn → Type 0
IsTurn holder queue (Granted c) = IsNext holder queue c
IsTurn holder queue Waiting = (c : Claim) → IsNext holder queue c → ⊥

-- a claim that is granted is taken, and else nothing changes
abbrev pub HasGranted : List (Option LockView) → List (Option LockView) → ℕ → Turn → Type 0
HasGranted old new x (Granted c) = HasTaken old new x c
HasGranted old new x Waiting = new ≡ old

-- x has a lock here, and the first that waits for it goes together with each holder
pub record IsGrantable (table : List (Option LockView)) (x : ℕ) : Type 0 where
  pub owned : is_owned table x ≡ true
  pub claim : Claim
  pub next : IsNext (holder_at table x) (queue_at table x) claim

-- ---- how a table is kept: the place of each vertex's lock

abbrev pub lock_there : List LockView → ℕ → Option LockView
lock_there locks place = if nat_lt place (length locks) then Some (slice_index_or locks place no_lock) else None

abbrev pub table_of : List ℕ → List LockView → List (Option LockView)
table_of places locks = map (lock_there locks) places
