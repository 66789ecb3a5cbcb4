-- How a scope goes on at a machine.
pub use Rattle.machine_core.specs.machine_parts.Order.{IsOrderly, IsOrderlyBut}
pub use Rattle.machine_core.specs.machine_parts.Parts.{part_of, entered_at}
pub use Rattle.gl_base.specs.scope_lists.Scopes.{is_scope, mode_at}
pub use Rattle.scope_locks.specs.scope_pipe.Entered.{next_at}
pub use Rattle.scope_locks.specs.vertex_locks.Tables.{room_at}
use Rattle.std.specs.Prelude.{◌≡◌, ◌<◌, ◌==◌, Bool, true, false, Some, length, slice_get}
use Rattle.gl_base.specs.declared.numbers.MachineNo.{MachineNo}
use Rattle.gl_base.specs.declared.scopes.Peer.TheVariants.{Machine}
use Rattle.gl_base.specs.declared.scopes.ScopeId.{ScopeId}
use Rattle.cluster_laws.specs.cluster_core.Effects.{asks_for}
use Rattle.wire.specs.outboxes.Outboxes.{outbox_to}
use Rattle.scope_locks.specs.scope_pipe.Entered.{EnteredView, next_of}
use Rattle.scope_locks.specs.declared.scope_pipe.next.Next.{Next}
use Rattle.scope_locks.specs.declared.scope_pipe.next.Next.TheVariants.{Lock, Forward, Home}
use Rattle.scope_locks.specs.vertex_locks.Tables.{is_owned}
use Rattle.machine_core.specs.declared.machine_parts.cores.Core.{Core}
use Rattle.machine_core.specs.machine_parts.Parts.{machine_numbers, number_of}

-- what the scope wants next is here, or at a machine of the cluster
abbrev pub LeadsWithin : Core → ScopeId → Next → Type 0
LeadsWithin m s (Lock y mode) = is_owned m.locks y.0 ≡ true
LeadsWithin m s (Forward b) = b.0 < length m.out.machines
LeadsWithin m s Home = s.home.0 < length m.out.machines

-- there is room for a message to machine b
abbrev pub HasPlaceFor : Core → MachineNo → Type 0
HasPlaceFor m b = 0 < (outbox_to m.out (Machine b)).room

abbrev pub HasReturnRoom : Core → MachineNo → Bool → Type 0
HasReturnRoom m home true = Unit {0}
HasReturnRoom m home false = HasPlaceFor m home

-- there is room for what the scope wants next
abbrev pub HasNextRoom : Core → ScopeId → Next → Type 0
HasNextRoom m s (Lock y mode) = 0 < room_at m.locks y.0
HasNextRoom m s (Forward b) = HasPlaceFor m b
HasNextRoom m s Home = HasReturnRoom m s.home (s.home.0 == m.numbers.local.me.0)

-- the scope, which has come, wants this next
abbrev pub Wants : Core → ScopeId → Next → Type 0
Wants m s next = (e : EnteredView) → entered_at m.pipe s ≡ Some e → next ≡ next_of e

-- the scope has asked for what it wanted next, as the cluster has it
abbrev pub HasGoneOn : Core → Core → ScopeId → Type 0
HasGoneOn old new s =
    (e : EnteredView) → entered_at old.pipe s ≡ Some e
    → part_of new ≡ asks_for old.numbers.local.me.0 s e.centre.0 (machine_numbers e.rest) (number_of (slice_get e.part e.place)) (part_of old)
