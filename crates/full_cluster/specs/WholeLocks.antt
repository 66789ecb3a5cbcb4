-- Locks that one scope holds at a time.
use Rattle.std.specs.List.{list_any}
use Rattle.std.specs.Prelude.{◌≡◌, ◌⊎◌, ◌<◌, ◌==◌, ℕ, Bool, false, Option, None, Some, List, [], ◌∷◌, if◌then◌else◌, length, slice_index_or, true}
use Rattle.std.specs.VecDeque.{deque_capacity}
use Rattle.gl_base.specs.declared.numbers.Vertex.{Vertex}
use Rattle.gl_base.specs.declared.scopes.ScopeId.{ScopeId}
use Rattle.gl_base.specs.scope_lists.Scopes.{is_scope, set_at, set_for}
use Rattle.full_cluster.specs.declared.locks.WholeLock.{WholeLock}

-- the scope is the holder
abbrev pub holds_lock : Option ScopeId → ScopeId → Bool
holds_lock None s = false
holds_lock (Some holder) s = is_scope s holder

-- nobody held the lock, and the first that waited holds it
pub record IsGrantedTo (old new : WholeLock) (s : ScopeId) : Type 0 where
  pub free : old.holder ≡ None
  pub first : old.queue.items ≡ s ∷ new.queue.items
  pub holder : new.holder ≡ Some s

-- nobody holds the lock, and this scope waits for it first
pub record IsFirstOf (lock : WholeLock) (s : ScopeId) : Type 0 where
  pub free : lock.holder ≡ None
  pub behind : List ScopeId
  pub first : lock.queue.items ≡ s ∷ behind

-- one more scope can wait for the lock without memory
abbrev pub HasRoomToWait : WholeLock → Type 0
HasRoomToWait lock = length lock.queue.items < deque_capacity lock.queue

-- somebody holds the lock, or nobody waits for it
abbrev pub IsUngrantable : WholeLock → Type 0
IsUngrantable lock = ((holder : ScopeId) × (lock.holder ≡ Some holder)) ⊎ (lock.queue.items ≡ [])

-- the scope doesn't hold the lock, and all else is as before
pub record IsFreed (old new : WholeLock) (s : ScopeId) : Type 0 where
  pub holder : new.holder ≡ (if holds_lock old.holder s then None else old.holder)
  pub queue : new.queue ≡ old.queue

-- these scopes hold the lock, and these wait for it
pub record IsLockOf (lock : WholeLock) (holds : ScopeId → Bool) (queue : List ScopeId) : Type 0 where
  pub holders : (s : ScopeId) → holds s ≡ holds_lock lock.holder s
  pub waiting : queue ≡ lock.queue.items

-- each of these locks is held so, and waited for so
pub record AreLocksOf (locks : List WholeLock) (holds : ℕ → ScopeId → Bool) (queue : ℕ → List ScopeId) : Type 0 where
  pub each : (x : ℕ) (d : WholeLock) → x < length locks → IsLockOf (slice_index_or locks x d) (holds x) (queue x)

-- one more scope can wait for lock x without memory
abbrev pub HasRoomAt : List WholeLock → ℕ → Type 0
HasRoomAt locks x = (d : WholeLock) → HasRoomToWait (slice_index_or locks x d)

-- s waits first for a lock that nobody holds
pub record IsNextOf (holds : ScopeId → Bool) (queue : List ScopeId) (s : ScopeId) : Type 0 where
  pub behind : List ScopeId
  pub first : queue ≡ s ∷ behind
  pub free : (t : ScopeId) → holds t ≡ false

-- the scope that waited first for lock x holds it
pub record HasGrantedNext (new : List WholeLock) (holds : ℕ → ScopeId → Bool) (queue : ℕ → List ScopeId) (x : ℕ) (s : ScopeId) : Type 0 where
  pub next : IsNextOf (holds x) (queue x) s
  pub after : AreLocksOf new (set_at holds x (set_for (holds x) s true)) (set_at queue x next.behind)

-- vertex x is among these
abbrev pub has_vertex : List (Vertex × ℕ) → ℕ → Bool
has_vertex pairs x = list_any (λ pair. pair.0.0 == x) pairs

-- scope s holds no lock of these vertices any more
abbrev pub released_of : List (Vertex × ℕ) → ScopeId → (ℕ → ScopeId → Bool) → ℕ → ScopeId → Bool
released_of pairs s holds x = if has_vertex pairs x then set_for (holds x) s false else holds x
