-- How a lock is kept, and what each call makes of it.
pub use Rattle.scope_locks.specs.vertex_locks.Locks.{requested}
use Rattle.std.specs.Prelude.{◌≡◌, ℕ, ◌+◌, ◌≤◌, Bool, Some, None, List, length, nat_lt, take, drop, if◌then◌else◌}
use Rattle.std.specs.List.{AllPairs}
use Rattle.gl_base.specs.declared.scopes.Claim.{Claim}
use Rattle.gl_base.specs.declared.scopes.ScopeId.{ScopeId}
use Rattle.gl_base.specs.scope_lists.Found.{by_scope, AreOfTwoScopes}
use Rattle.gl_base.specs.scope_lists.Scopes.{is_scope, GoTogether}
use Rattle.scope_locks.specs.vertex_locks.Locks.{LockView, claimant}

abbrev pub ReadTogether : Claim → Claim → Type 0
ReadTogether one other = GoTogether one.mode other.mode

-- each scope has one claim, and where several hold the lock all are readers
pub record IsLock (claims : List Claim) (held : ℕ) : Type 0 where
  pub within : held ≤ length claims
  pub once : AllPairs (AreOfTwoScopes claimant) claims
  pub together : AllPairs ReadTogether (take held claims)

-- the claim, the first that waited, holds the lock
pub record IsTaken (old new : LockView) (c : Claim) : Type 0 where
  pub holders : (t : ScopeId) → by_scope claimant new.holders t ≡ (if is_scope t c.scope then Some c else by_scope claimant old.holders t)
  pub queue : new.queue ≡ drop 1 old.queue
  pub room : new.room ≡ old.room

-- the scope alone holds the lock no more
pub record IsReleased (old new : LockView) (s : ScopeId) : Type 0 where
  pub holders : (t : ScopeId) → by_scope claimant new.holders t ≡ (if is_scope t s then None else by_scope claimant old.holders t)
  pub queue : new.queue ≡ old.queue

-- the claims are the same
pub record SameClaims (old new : LockView) : Type 0 where
  pub holders : new.holders ≡ old.holders
  pub queue : new.queue ≡ old.queue

-- ---- counting

-- one where it is so, and else none
abbrev pub counted_if : Bool → ℕ
counted_if b = if b then 1 else 0

-- one where somebody claims the lock
abbrev pub claimed_once : LockView → ℕ
claimed_once l = counted_if (nat_lt 0 (length l.holders + length l.queue))
