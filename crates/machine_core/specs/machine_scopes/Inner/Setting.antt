-- How a new scope sets out.
pub use Rattle.machine_core.specs.machine_parts.Order.{IsGraphInOrder}
pub use Rattle.machine_core.specs.machine_parts.Parts.{is_own, is_owned, parts_at}
use Rattle.std.specs.Prelude.{◌≡◌, ◌≢◌, ◌<◌, ◌∷◌, List, slice_get}
use Rattle.gl_base.specs.declared.numbers.MachineNo.{MachineNo}
use Rattle.gl_base.specs.declared.numbers.Vertex.{Vertex}
use Rattle.gl_base.specs.declared.scopes.ScopeId.{ScopeId}
use Rattle.cluster_laws.specs.cluster_core.Effects.{sets_out}
use Rattle.cluster_laws.specs.cluster_core.Settings.{Setting}
use Rattle.scope_locks.specs.scope_pipe.Entered.{next_at}
use Rattle.scope_locks.specs.scope_pipe.Pipes.{come}
use Rattle.scope_locks.specs.declared.scope_pipe.next.Next.{Next}
use Rattle.machine_core.specs.declared.machine_parts.cores.Core.{Core}
use Rattle.machine_core.specs.machine_parts.Parts.{part_of, part_at, machine_numbers}
use Rattle.machine_core.specs.machine_parts.Settings.{IsPartOf}
use Rattle.machine_core.specs.declared.machine_scopes.starting.Start.{Start}
use Rattle.machine_core.specs.declared.machine_scopes.starting.Start.TheVariants.{Here, Away}
use Rattle.machine_core.specs.machine_scopes.Inner.Going.{HasNextRoom, HasPlaceFor}

-- the scope of v has this machine first, one more may come here, and there is room for what it wants first
pub record StartsHere (m : Core) (s : ScopeId) (v : Vertex) (part : List Vertex) (rest : List MachineNo) (next : Next) : Type 0 where
  pub machines : parts_at m.numbers.local v.0 ≡ m.numbers.local.me ∷ rest
  pub vertices : part ≡ part_at m.numbers.local v.0
  pub first : next ≡ next_at v (slice_get part 0) rest
  pub few : come m.pipe < 4096
  pub room : HasNextRoom m s next

-- the scope of v has another machine first, and there is room for a message to it
pub record StartsAway (m : Core) (v : Vertex) (first : MachineNo) (rest : List MachineNo) : Type 0 where
  pub machines : parts_at m.numbers.local v.0 ≡ first ∷ rest
  pub other : first.0 ≢ m.numbers.local.me.0
  pub room : HasPlaceFor m first

-- so the scope of v can set out
abbrev pub CanSetOut : Core → ScopeId → Vertex → Start → Type 0
CanSetOut m s v (Here part rest next) = StartsHere m s v part.items rest.items next
CanSetOut m s v (Away first rest) = StartsAway m v first rest.items

-- it has set out, as the cluster has it
abbrev pub HasSetOut : Core → Core → ScopeId → Vertex → Type 0
HasSetOut old new s v =
    (st : Setting) → IsPartOf st old → part_of new ≡ sets_out st old.numbers.local.me.0 s v.0 (machine_numbers (parts_at old.numbers.local v.0)) (part_of old)
