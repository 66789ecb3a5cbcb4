-- A machine that goes by colours and takes part in snapshots, as contracts see it.
pub use Rattle.cluster_laws.specs.cluster_core.Parts.{Part}
pub use Rattle.machine_core.specs.color_parts.Settings.{GoesByColours}
pub use Rattle.machine_core.specs.machine_parts.Settings.{IsPartOf, Setting}
pub use Rattle.snapshot_machines.specs.saving.Machines.{IsOrderly, KnowsPlaces, SnapMachineView, SnapView, outside_of, part_of}
pub use Rattle.snapshot_machines.specs.marking.Keeping.{with_snaps}
use Rattle.std.specs.Prelude.{◌≡◌, ℕ, Bool, true, false, List, length, nat_lt}
use Rattle.cluster_laws.specs.cluster_core.Settings.{IsSetting, Locking}
use Rattle.machine_core.specs.declared.machine_parts.cores.Core.{Core}
use Rattle.scope_locks.specs.scope_pipe.Pipes.{IsEmpty}
use Rattle.task_sets.specs.task_sched.Tasks.{is_flagged}
use Rattle.update_api.specs.Updates.{Update}
use Rattle.scope_locks.specs.vertex_locks.Tables.{IsUnclaimed}

-- its parts, what it keeps for snapshots, its program, the colours of its own vertices by their places, the colour of the step that it is in,
-- and whether it admits nothing more in that step
pub record ColorSnapView (P : Type 0) : Type 0 where
  pub core : Core
  pub kept : SnapView
  pub program : P
  pub colours : List ℕ
  pub colour : ℕ
  pub closed : Bool

-- the machine in no step yet
abbrev pub in_no_step : {P : Type 0} → SnapMachineView P → List ℕ → ColorSnapView P
in_no_step m colours = record { core = m.core; kept = m.kept; program = m.program; colours = colours; colour = 0; closed = true }

-- its part in the law: that of its parts, with what it keeps for snapshots, in its step
abbrev pub part_of_steps : {P : Type 0} → ColorSnapView P → Part
part_of_steps x = record (with_snaps x.kept (part_of x.core)) { colour = x.colour; closed = x.closed }

-- ---- settings

-- the setting, where scopes take locks
abbrev pub with_locking : Setting → Setting
with_locking st = record st { engine = Locking }

-- The machine's parts are a part of the setting but for its engine, and that goes by the colours of the machine's vertices.
pub record IsColorSnapPart {P : Type 0} (st : Setting) (x : ColorSnapView P) : Type 0 where
  pub part : IsPartOf (with_locking st) x.core
  pub engine : GoesByColours st.engine x.core.by_place.items x.colours

-- It is a part of the setting, whose program is the machine's.
pub record IsColorSnapOf {P : Type 0} (meaning : P → Update) (st : Setting) (x : ColorSnapView P) : Type 0 where
  pub is : IsSetting st
  pub part : IsColorSnapPart st x
  pub program : st.program ≡ meaning x.program

-- it is the same machine: of the same number, with the same program and colours, and a part of each setting of which it was one
pub record IsSameColorSnap {P : Type 0} (old new : ColorSnapView P) : Type 0 where
  pub settings : (st : Setting) → IsColorSnapPart st old → IsColorSnapPart st new
  pub number : new.core.numbers.local.me ≡ old.core.numbers.local.me
  pub program : new.program ≡ old.program
  pub colours : new.colours ≡ old.colours

-- and in the same step
pub record IsInSameStep {P : Type 0} (old new : ColorSnapView P) : Type 0 where
  pub same : IsSameColorSnap old new
  pub colour : new.colour ≡ old.colour
  pub closed : new.closed ≡ old.closed

-- ---- a new machine

-- No locks are taken and nothing is under way; there are so many own vertices, each of which is a task, and none is pending or admitted.
pub record IsFreshInSteps (m : Core) (count : ℕ) : Type 0 where
  pub unlocked : m.terms.locks ≡ false
  pub unclaimed : IsUnclaimed m.locks
  pub empty : IsEmpty m.pipe
  pub many : length m.numbers.tasks.task ≡ count
  pub tasks : (u : ℕ) → is_flagged m.numbers.tasks.task u ≡ nat_lt u count
  pub none : (u : ℕ) → (is_flagged m.numbers.tasks.pending u ≡ false) × (is_flagged m.numbers.tasks.admitted u ≡ false)
