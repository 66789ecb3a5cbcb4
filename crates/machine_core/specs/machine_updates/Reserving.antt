-- Room for a commit.
use Rattle.std.specs.Prelude.{◌≡◌, ◌≢◌, ℕ, ◌<◌, ◌==◌, ◌&&◌, Bool, not, List, length, vec_len, vec_capacity}
use Rattle.std.specs.List.{All, AllPairs, list_any}
use Rattle.gl_base.specs.declared.numbers.MachineNo.{MachineNo}
use Rattle.gl_base.specs.declared.numbers.Vertex.{Vertex}
use Rattle.gl_base.specs.declared.scopes.Peer.TheVariants.{Machine}
use Rattle.gl_base.specs.declared.scopes.ScopeId.{ScopeId}
use Rattle.wire.specs.outboxes.Outboxes.{OutboxesView, outbox_to}
use Rattle.partition.specs.machine_numbers.Steps.{IsBlank}
use Rattle.machine_core.specs.declared.machine_parts.cores.Core.{Core}
use Rattle.machine_core.specs.machine_parts.Parts.{datum_here, sides_at, parts_at}
use Rattle.machine_core.specs.declared.machine_updates.reserving.Prepared.{Prepared}

-- there is room for a message to machine b
abbrev pub HasRoomToTell : OutboxesView → MachineNo → Type 0
HasRoomToTell out b = 0 < (outbox_to out (Machine b)).room

-- machine q is one of those that are to be told
abbrev pub is_to_be_told : List Prepared → ℕ → Bool
is_to_be_told ps q = list_any (λ p. p.to.0 == q) ps

-- Each is a machine, with room for a message and a blank one of this scope for it, and none stands twice.
pub record CanTell (out : OutboxesView) (scope : ScopeId) (centre : Vertex) (many : ℕ) (ps : List Prepared) : Type 0 where
  pub machines : All (λ p. p.to.0 < length out.machines) ps
  pub room : All (λ p. HasRoomToTell out p.to) ps
  pub blank : All (λ p. IsBlank p.done scope centre many) ps
  pub apart : AllPairs (λ one other. one.to.0 ≢ other.to.0) ps

-- There is room for the commit of this scope: in the log, for a version more of its vertex, and to tell each other machine of the
-- scope, and no one else.
pub record IsReserved (m : Core) (scope : ScopeId) (v : Vertex) (ps : List Prepared) : Type 0 where
  pub can : CanTell m.out scope v (length (sides_at m.numbers.local v.0)) ps
  pub told : (q : ℕ) → is_to_be_told ps q ≡ (list_any (λ b. b.0 == q) (parts_at m.numbers.local v.0) && not (q == m.numbers.local.me.0))
  pub room : vec_len m.numbers.log < vec_capacity m.numbers.log
  pub few : length m.numbers.log.items < 4294967295
  pub version : (datum_here m.numbers v.0).version < 4294967295
