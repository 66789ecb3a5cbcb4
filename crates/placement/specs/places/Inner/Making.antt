-- What a new machine has beside its numbers.
use Rattle.std.specs.Prelude.{◌≡◌, ◌<◌, ◌==◌, ℕ, [], length}
use Rattle.std.specs.List.{list_any}
use Rattle.gl_base.specs.declared.scopes.Peer.{Peer}
use Rattle.gl_base.specs.declared.numbers.MachineNo.{MachineNo}
use Rattle.machine_core.specs.machine_parts.Order.{StandByPlace}
use Rattle.machine_core.specs.machine_parts.Parts.{LocalView, is_owned, waiting_for}
use Rattle.scope_locks.specs.scope_pipe.Pipes.{IsEmpty}
use Rattle.scope_locks.specs.vertex_locks.Tables.{IsUnclaimed}
use Rattle.placement.specs.declared.places.cores.NewTerms.{NewTerms}
use Rattle.placement.specs.declared.places.cores.OwnLists.{OwnLists}
use Rattle.placement.specs.declared.places.cores.Ways.{Ways}

-- the own vertices by their places, and a lock for each of them that nobody claims
pub record AreOwnLists (l : LocalView) (lists : OwnLists) : Type 0 where
  pub by_place : StandByPlace l (length l.owned) lists.by_place.items
  pub owned : (x : ℕ) → is_owned lists.locks x ≡ list_any (λ v. v.0 == x) l.owned
  pub unclaimed : IsUnclaimed lists.locks

-- no scope is in flight or has come, the first that is admitted gets the serial, and there is an empty outbox to each machine
pub record AreEmptyWays (me : MachineNo) (terms : NewTerms) (ways : Ways) : Type 0 where
  pub home : ways.pipe.home ≡ me
  pub width : ways.pipe.width ≡ terms.terms.pipeline
  pub serial : ways.pipe.serial ≡ terms.serial
  pub empty : IsEmpty ways.pipe
  pub machines : length ways.out.machines ≡ terms.machines
  pub few : terms.machines < 65536
  pub none : (to : Peer) → waiting_for ways.out to ≡ []
