-- Calls that change nothing but how much room there is.
use Rattle.std.specs.Prelude.{◌≡◌, ℕ, Option, List, length}
use Rattle.gl_base.specs.declared.scopes.Peer.{Peer}
use Rattle.gl_base.specs.declared.scopes.ScopeId.{ScopeId}
use Rattle.scope_locks.specs.vertex_locks.Locks.{LockView}
use Rattle.machine_core.specs.declared.machine_parts.cores.Core.{Core}
use Rattle.machine_core.specs.machine_parts.Parts.{OutboxesView, waiting_for, is_owned, holder_at, queue_at}

-- the same scopes hold and wait for each lock
pub record HaveSameClaims (old new : List (Option LockView)) : Type 0 where
  pub owned : (x : ℕ) → is_owned new x ≡ is_owned old x
  pub holder : (x : ℕ) (s : ScopeId) → holder_at new x s ≡ holder_at old x s
  pub queue : (x : ℕ) → queue_at new x ≡ queue_at old x

-- the same messages wait for each peer
pub record HaveSameMessages (old new : OutboxesView) : Type 0 where
  pub machines : length new.machines ≡ length old.machines
  pub messages : (to : Peer) → waiting_for new to ≡ waiting_for old to

-- only room has changed
pub record HasOnlyMadeRoom (old new : Core) : Type 0 where
  pub log : new.numbers.log.items ≡ old.numbers.log.items
  pub locks : HaveSameClaims old.locks new.locks
  pub out : HaveSameMessages old.out new.out
  pub rest : new ≡ record old { numbers = record old.numbers { log = new.numbers.log }; locks = new.locks; out = new.out; spare = new.spare }
