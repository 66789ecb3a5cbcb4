-- What an update at once asks of a machine, and what it leaves.
pub use Rattle.cluster_laws.specs.cluster_core.Settings.{IsSetting}
pub use Rattle.cluster_laws.specs.interior_scopes.AtOnce.{MayUpdateAtOnce, at_once, entry_at_once}
pub use Rattle.machine_core.specs.machine_parts.Order.{IsOrderly, KnowsPlaces}
pub use Rattle.machine_core.specs.machine_parts.Parts.{LocalView, part_of, is_own, links_at, pending_here, sides_at}
pub use Rattle.machine_core.specs.machine_parts.Settings.{Setting, IsPartOf, SameSettings}
pub use Rattle.machine_core.specs.machine_scopes.Admitting.{MayAdmitNone, MayAdmitVertex}
pub use Rattle.machine_core.specs.machine_turns.Turns.{HasEachRow, IsRowIn}
pub use Rattle.partition.specs.machine_numbers.Views.{TasksView, datum_here, is_flagged}
pub use Rattle.task_sets.specs.task_sched.Tasks.{IsNextPick, is_open}
use Rattle.std.specs.Prelude.{◌≡◌, ◌+◌, ◌⊎◌, ℕ, Some, None, slice_get, true}
use Rattle.gl_base.specs.declared.numbers.Vertex.{Vertex}
use Rattle.update_api.specs.Updates.{Update}
use Rattle.task_sets.specs.declared.task_sched.task_sets.Pick.{Pick}
use Rattle.machine_core.specs.declared.machine_parts.cores.Core.{Core}

-- the tasks pick this vertex next
pub record PicksNext (m : Core) (v : Vertex) : Type 0 where
  pub pick : Pick
  pub next : IsNextPick m.numbers.tasks (Some pick)
  pub place : slice_get m.by_place.items pick.vertex.0 ≡ Some v

-- for each setting of which the machine is a part, v may be updated at once while a ticket is left
abbrev pub MayUpdateHere : Core → Vertex → Type 0
MayUpdateHere m v = (st : Setting) → IsSetting st → IsPartOf st m → MayUpdateAtOnce st m.numbers.local.me.0 v.0 (part_of m) 1

-- for none of them
abbrev pub MayNotUpdateHere : Core → Vertex → Type 0
MayNotUpdateHere m v = (st : Setting) → IsSetting st → IsPartOf st m → MayUpdateAtOnce st m.numbers.local.me.0 v.0 (part_of m) 1 → ⊥

-- the tasks pick a vertex next that may be updated at once, and the window has room
pub record CanUpdatePick (m : Core) : Type 0 where
  pub vertex : Vertex
  pub picked : PicksNext m vertex
  pub opened : is_open m.numbers.tasks ≡ true
  pub may : MayUpdateHere m vertex

-- they pick nothing, or a vertex that may not
abbrev pub CanNotUpdatePick : Core → Type 0
CanNotUpdatePick m = IsNextPick m.numbers.tasks None ⊎ ((v : Vertex) × PicksNext m v × MayNotUpdateHere m v)

-- of no vertex may a scope be admitted, or of one may a scope be admitted that may not be updated at once: it is pending, or the window
-- has room
abbrev pub HasNoneAtOnce : Core → Type 0
HasNoneAtOnce m =
    MayAdmitNone m
    ⊎ ((v : Vertex) × MayAdmitVertex m v.0 × MayNotUpdateHere m v × ((pending_here m.numbers v.0 ≡ true) ⊎ (is_open m.numbers.tasks ≡ true)))

-- The tasks picked v, which might be updated at once, and the window had room. For each setting of which the machine is a part, and whose program is this
-- one, the part is what the law makes of it: the update is logged under this ticket.
pub record HasUpdatedPick (program : Update) (old new : Core) (v : Vertex) (ticket : ℕ) : Type 0 where
  pub picked : PicksNext old v
  pub opened : is_open old.numbers.tasks ≡ true
  pub may : MayUpdateHere old v
  pub after : (st : Setting) → IsSetting st → IsPartOf st old → st.program ≡ program →
      part_of new ≡ at_once st old.numbers.local.me.0 v.0 (entry_at_once old.numbers.local.me.0 v.0 ticket) (part_of old)

-- One update more is outside. As many scopes are planned as were, and of each vertex that is admitted it is as it was whether its scope was planned.
pub record HasRunAtOnce (old new : TasksView) : Type 0 where
  pub plans : new.plans ≡ old.plans
  pub planned : (k : ℕ) → is_flagged old.admitted k ≡ true → is_flagged new.planned k ≡ is_flagged old.planned k
  pub rest : new ≡ record old { task = new.task; planned = new.planned; outside = old.outside + 1 }
