-- A lock: who holds it, and who waits for it.
use Rattle.std.specs.Prelude.{◌≡◌, ℕ, ◌+◌, ◌-◌, ◌++◌, Bool, Option, Some, None, is_some, option_map, List, [], ◌∷◌, take, drop, if◌then◌else◌}
use Rattle.std.specs.List.{AllPairs, AllByRecursion}
use Rattle.gl_base.specs.declared.scopes.Claim.{Claim}
use Rattle.gl_base.specs.declared.scopes.Mode.{Mode}
use Rattle.gl_base.specs.declared.scopes.Mode.TheVariants.{Writer}
use Rattle.gl_base.specs.declared.scopes.ScopeId.{ScopeId}
use Rattle.gl_base.specs.scope_lists.Scopes.{GoTogether, is_scope}
use Rattle.gl_base.specs.scope_lists.Found.{by_scope, AreOfTwoScopes}

-- Who holds the lock, who waits for it, the first first, and for how many more claims there is room.
pub record LockView : Type 0 where
  pub holders : List Claim
  pub queue : List Claim
  pub room : ℕ

-- whose claim it is
abbrev pub claimant : Claim → ScopeId
claimant c = c.scope

-- one of these claims is of the scope
abbrev pub has : ScopeId → List Claim → Bool
has s claims = is_some (by_scope claimant claims s)

-- how the scope holds the lock, where it does
abbrev pub mode_of : List Claim → ScopeId → Option Mode
mode_of claims s = option_map (λ c. c.mode) (by_scope claimant claims s)

-- the claim is the first that waits, and goes together with each holder
pub record IsNext (holder : ScopeId → Option Mode) (queue : List Claim) (c : Claim) : Type 0 where
  pub behind : List Claim
  pub first : queue ≡ c ∷ behind
  pub together : (s : ScopeId) (mode : Mode) → holder s ≡ Some mode → GoTogether mode c.mode

-- nobody holds the lock, and nobody waits for it
pub record IsFreeLock (holder : ScopeId → Option Mode) (queue : List Claim) : Type 0 where
  pub unheld : (s : ScopeId) → holder s ≡ None
  pub none_waits : queue ≡ []

-- where a writer holds the lock, it is the only holder
abbrev pub WritesAlone : (ScopeId → Option Mode) → Type 0
WritesAlone holder = (s t : ScopeId) (mode : Mode) → holder s ≡ Some Writer → holder t ≡ Some mode → s ≡ t

-- no scope waits twice, and none that waits holds the lock
pub record WaitOnce (holder : ScopeId → Option Mode) (queue : List Claim) : Type 0 where
  pub once : AllPairs (AreOfTwoScopes claimant) queue
  pub hold_not : AllByRecursion (λ c. holder c.scope ≡ None) queue

-- the claim waits behind the others
abbrev pub requested : Claim → LockView → LockView
requested c l = record { holders = l.holders; queue = l.queue ++ c ∷ []; room = l.room - 1 }

-- the claims without the first of the scope
abbrev pub without_claim : ScopeId → List Claim → List Claim
without_claim s [] = []
without_claim s (c ∷ claims) = if is_scope c.scope s then claims else c ∷ without_claim s claims

-- the lock when the scope has let it go, where it held it
abbrev pub released : ScopeId → LockView → LockView
released s l = if has s l.holders then record { holders = without_claim s l.holders; queue = l.queue; room = l.room + 1 } else l

-- ---- how a lock is kept: the holders, and behind them those who wait

abbrev pub view_of : List Claim → ℕ → ℕ → LockView
view_of claims held room = record { holders = take held claims; queue = drop held claims; room = room }
