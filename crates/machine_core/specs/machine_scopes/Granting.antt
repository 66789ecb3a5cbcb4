-- What a grant promises, for each setting of which the machine is a part.
pub use Rattle.cluster_laws.specs.cluster_core.Actions.{MayGrant}
pub use Rattle.cluster_laws.specs.cluster_core.Effects.{granted}
pub use Rattle.cluster_laws.specs.interior_scopes.InTurn.{AreGranted}
pub use Rattle.machine_core.specs.machine_parts.Order.{IsOrderly}
pub use Rattle.machine_core.specs.machine_parts.Parts.{part_of, is_owned, holder_at, queue_at}
pub use Rattle.machine_core.specs.machine_parts.Rooms.{HasOnlyMadeRoom}
pub use Rattle.machine_core.specs.machine_parts.Settings.{IsPartOf, SameSettings}
pub use Rattle.scope_locks.specs.vertex_locks.Locks.{IsNext, WaitOnce}
use Rattle.std.specs.Prelude.{◌≡◌, ℕ, Some, List, ◌∷◌}
use Rattle.gl_base.specs.declared.scopes.Claim.{Claim}
use Rattle.gl_base.specs.declared.scopes.ScopeId.{ScopeId}
use Rattle.cluster_laws.specs.cluster_core.Settings.{Setting}
use Rattle.scope_locks.specs.scope_pipe.Entered.{EnteredView, next_of}
use Rattle.scope_locks.specs.scope_pipe.Pipes.{entered_at}
use Rattle.scope_locks.specs.declared.scope_pipe.next.Next.{Next}
use Rattle.machine_core.specs.declared.machine_parts.cores.Core.{Core}

-- the lock of x may be granted to the first that waits for it
abbrev pub MayGrantLock : Core → ℕ → Type 0
MayGrantLock m x = (st : Setting) → IsPartOf st m → MayGrant st m.numbers.local.me.0 x (part_of m)

-- it may not
abbrev pub MayNotGrantLock : Core → ℕ → Type 0
MayNotGrantLock m x = (st : Setting) → IsPartOf st m → MayGrant st m.numbers.local.me.0 x (part_of m) → ⊥

-- it was, and all is as the cluster has it then
abbrev pub HasGrantedLock : Core → Core → ℕ → Type 0
HasGrantedLock old new x = (st : Setting) → IsPartOf st old → part_of new ≡ granted st old.numbers.local.me.0 x (part_of old)

-- it was, and then in turn the locks of some other vertices were, each where it might be
abbrev pub HasGrantedInTurn : Core → Core → ℕ → Type 0
HasGrantedInTurn old new x = (more : List ℕ) × ((st : Setting) → IsPartOf st old → AreGranted st old.numbers.local.me.0 (x ∷ more) (part_of old) (part_of new))

-- of those that wait for the lock of x the first is of this scope
abbrev pub WaitsFirst : Core → ℕ → ScopeId → Type 0
WaitsFirst m x s = (c : Claim) (behind : List Claim) → queue_at m.locks x ≡ c ∷ behind → s ≡ c.scope

-- what the scope, which has come, wanted next
abbrev pub WantedNext : Core → ScopeId → Next → Type 0
WantedNext m s next = (e : EnteredView) → entered_at m.pipe s ≡ Some e → next ≡ next_of e
