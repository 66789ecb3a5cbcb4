-- What an update at once in a step asks of a machine that takes part in snapshots, and what it leaves, for each setting of which it is a part.
pub use Rattle.machine_core.specs.machine_at_once.Picks.{HasRunAtOnce, MayUpdateAtOnce, at_once, entry_at_once}
pub use Rattle.snapshot_machines.specs.saving.Updates.{HasLoggedAtOnce}
use Rattle.std.specs.Prelude.{◌≡◌, ◌⊎◌, ℕ, true}
use Rattle.gl_base.specs.declared.numbers.Vertex.{Vertex}
use Rattle.cluster_laws.specs.cluster_core.Settings.{IsSetting}
use Rattle.task_sets.specs.task_sched.Tasks.{is_open}
use Rattle.update_api.specs.Updates.{Update}
use Rattle.snapshot_machines.specs.chromatic.Admitting.{CanAdmitByColour, MayAdmitNoneByColour}
use Rattle.snapshot_machines.specs.chromatic.Machines.{ColorSnapView, IsColorSnapPart, Setting, part_of_steps}

-- v may be updated at once while a ticket is left, in each setting; and in none
abbrev pub MayUpdateByColour : {P : Type 0} → ColorSnapView P → Vertex → Type 0
MayUpdateByColour x v = (st : Setting) → IsSetting st → IsColorSnapPart st x → MayUpdateAtOnce st x.core.numbers.local.me.0 v.0 (part_of_steps x) 1

abbrev pub MayNotUpdateByColour : {P : Type 0} → ColorSnapView P → Vertex → Type 0
MayNotUpdateByColour x v = (st : Setting) → IsSetting st → IsColorSnapPart st x → MayUpdateAtOnce st x.core.numbers.local.me.0 v.0 (part_of_steps x) 1 → ⊥

-- some vertex may be updated at once, and the window has room
pub record CanUpdateByColour {P : Type 0} (x : ColorSnapView P) : Type 0 where
  pub vertex : Vertex
  pub opened : is_open x.core.numbers.tasks ≡ true
  pub may : MayUpdateByColour x vertex

-- of no vertex may a scope be admitted, or of one may a scope be admitted that may not be updated at once
abbrev pub HasNoneByColour : {P : Type 0} → ColorSnapView P → Type 0
HasNoneByColour x = MayAdmitNoneByColour x ⊎ ((can : CanAdmitByColour x) × MayNotUpdateByColour x can.vertex)

-- v might be updated at once, and the window had room. For each setting of which the machine is a part, and whose program is this one, the
-- part is what the law makes of it: the update is logged under this ticket.
pub record HasUpdatedByColour {P : Type 0} (program : Update) (old new : ColorSnapView P) (v : Vertex) (ticket : ℕ) : Type 0 where
  pub opened : is_open old.core.numbers.tasks ≡ true
  pub may : MayUpdateByColour old v
  pub after : (st : Setting) → IsSetting st → IsColorSnapPart st old → st.program ≡ program →
      part_of_steps new ≡ at_once st old.core.numbers.local.me.0 v.0 (entry_at_once old.core.numbers.local.me.0 v.0 ticket) (part_of_steps old)
