-- What the update of a scope in a step asks of a machine that takes part in snapshots, and what it leaves.
pub use Rattle.cluster_laws.specs.cluster_core.Actions.{MayUpdate}
pub use Rattle.machine_core.specs.machine_turns.Turns.{HasRunOf}
pub use Rattle.snapshot_machines.specs.saving.Updates.{HasLogged}
use Rattle.std.specs.Prelude.{◌≡◌, ℕ}
use Rattle.gl_base.specs.declared.entries.Entry.TheVariants.{Go}
use Rattle.gl_base.specs.declared.scopes.ScopeId.{ScopeId}
use Rattle.cluster_laws.specs.cluster_core.Effects.{updated}
use Rattle.cluster_laws.specs.cluster_core.Settings.{IsSetting}
use Rattle.update_api.specs.Updates.{Update}
use Rattle.snapshot_machines.specs.chromatic.Machines.{ColorSnapView, IsColorSnapPart, Setting, part_of_steps}

-- The scope might make its update. For each setting of which the machine is a part, and whose program is this one, the part is what
-- the law makes of it: the update is logged under this ticket.
pub record HasUpdatedInColour {P : Type 0} (program : Update) (old new : ColorSnapView P) (s : ScopeId) (ticket : ℕ) : Type 0 where
  pub may : MayUpdate s (part_of_steps old) 1
  pub home : s.home ≡ old.core.numbers.local.me
  pub after : (st : Setting) → IsSetting st → IsColorSnapPart st old → st.program ≡ program →
      part_of_steps new ≡ updated st s.home.0 s may.vertex (Go s.home (record { 0 = may.vertex }) ticket) (part_of_steps old)
