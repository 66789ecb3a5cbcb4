-- What the messages of scopes ask of a machine, and what it promises for each setting of which it is a part.
pub use Rattle.cluster_laws.specs.cluster_core.Effects.{received}
pub use Rattle.cluster_laws.specs.cluster_core.Messages.{Message, Ask, Ready}
pub use Rattle.cluster_laws.specs.cluster_core.Places.{IsAtHome}
pub use Rattle.cluster_laws.specs.cluster_core.Receiving.{MayAsk, MayBecomeReady}
pub use Rattle.cluster_laws.specs.cluster_core.Settings.{Setting, IsSetting, is_in_scope}
pub use Rattle.machine_core.specs.machine_parts.Order.{IsOrderly, is_one_of}
pub use Rattle.machine_core.specs.machine_parts.Parts.{part_of, part_at, is_placed, machine_numbers, flight_at, is_ready, entered_at, holder_at}
pub use Rattle.machine_core.specs.machine_parts.Rooms.{HasOnlyMadeRoom}
pub use Rattle.machine_core.specs.machine_parts.Settings.{IsPartOf, SameSettings}
pub use Rattle.scope_locks.specs.scope_pipe.Pipes.{come}
use Rattle.std.specs.Prelude.{◌≡◌, ◌≢◌, ◌⊎◌, ℕ, ◌<◌, true, false, Some, None, is_some, List, length, slice_get}
use Rattle.gl_base.specs.declared.numbers.MachineNo.{MachineNo}
use Rattle.gl_base.specs.declared.numbers.Vertex.{Vertex}
use Rattle.gl_base.specs.declared.scopes.ScopeId.{ScopeId}
use Rattle.machine_core.specs.declared.machine_parts.cores.Core.{Core}

-- The scope of this centre has not come to the machine and holds no lock there; where it is of this home it is in flight with that
-- centre; and the centre is an own vertex or a ghost.
pub record IsNewAt (m : Core) (s : ScopeId) (centre : Vertex) : Type 0 where
  pub come_not : entered_at m.pipe s ≡ None
  pub holds_not : (x : ℕ) → holder_at m.locks x s ≡ None
  pub flight : (s.home.0 ≢ m.pipe.home.0) ⊎ (flight_at m.pipe s ≡ Some centre)
  pub placed : is_placed m.numbers.local centre.0 ≡ true

-- these machines, and the scope's home, are of the cluster
pub record AreMachinesFor (m : Core) (s : ScopeId) (rest : List MachineNo) : Type 0 where
  pub machines : (i : ℕ) (b : MachineNo) → slice_get rest i ≡ Some b → b.0 < length m.out.machines
  pub home : s.home.0 < length m.out.machines

-- The scope is in flight and not ready, and holds the locks of all own vertices of its scope.
pub record CanBecomeReady (m : Core) (s : ScopeId) : Type 0 where
  pub centre : Vertex
  pub flight : flight_at m.pipe s ≡ Some centre
  pub waits : is_ready m.pipe s ≡ false
  pub holds : (x : ℕ) → is_one_of (part_at m.numbers.local centre.0) x ≡ true → is_some (holder_at m.locks x s) ≡ true

-- the message was received, and all is as the cluster has it then
abbrev pub HasReceivedMessage : Core → Core → Message → Type 0
HasReceivedMessage old new message = (st : Setting) → IsPartOf st old → part_of new ≡ received st old.numbers.local.me.0 message (part_of old)
