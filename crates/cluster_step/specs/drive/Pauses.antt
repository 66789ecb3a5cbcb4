-- Where the rounds of an attempt pause.
pub use Rattle.cluster_step.specs.trace.Traces.{CallOpening, Cluster, TraceGoesOn, TraceView, InEachTrace, IsSameAttempt, Machine, Setting, as_since}
pub use Rattle.cluster_step.specs.trace.Calls.{HasEndedCall, HasTaskLeft, LeavesNothing, OfTheCall}
pub use Rattle.cluster_step.specs.trace.Events.{GoesOnBy}
pub use Rattle.cluster_step.specs.clusters.Events.{NamesItsMachines}
use Rattle.std.specs.Prelude.{false, length, true, ℕ, ◌<◌, ◌≡◌}
use Rattle.gl_base.specs.declared.numbers.MachineNo.{MachineNo}
use Rattle.call_laws.specs.attempts.EngineCalls.{made_of}
use Rattle.cluster_step.specs.declared.drive.pauses.Pause.{Pause}
use Rattle.cluster_step.specs.declared.drive.pauses.Pause.TheVariants.{Ended, Full, Quiet, Reached, Record, Spent}
use Rattle.coordinator.specs.coord_core.Calls.{IsDueOf}
use Rattle.coordinator.specs.declared.coord_core.leading.Due.TheVariants as due
use Rattle.call_laws.specs.whole_calls.Following.{has_reached}
use Rattle.call_laws.specs.whole_calls.Saved.{MayFollow}
use Rattle.call_laws.specs.whole_calls.Telling.{LacksNoSnapshot, NeedsMoreStore}

-- no machine has reached the count of a failure
abbrev pub NoneReached : {M : Type 0} → (Setting → ℕ → Machine → M → Type 0) → TraceView M → Type 0
NoneReached represents v = (a : ℕ) → a < length v.now.machines.items → InEachTrace represents v (λ st o events c. has_reached v.failures c a ≡ false)

-- machine m has reached the count of a failure
abbrev pub IsReachedAt : {M : Type 0} → (Setting → ℕ → Machine → M → Type 0) → TraceView M → MachineNo → Type 0
IsReachedAt represents v m = (m.0 < length v.now.machines.items) × InEachTrace represents v (λ st o events c. has_reached v.failures c m.0 ≡ true)

-- no ticket is left of the budget, and a task is; and where snapshots are taken a store that has as many as may be lacks none
abbrev pub IsSpentNow : {M : Type 0} → (Setting → ℕ → Machine → M → Type 0) → TraceView M → Type 0
IsSpentNow represents v =
    OfTheCall represents v (λ st o c call. (length (made_of call) ≡ o.first.left) × HasTaskLeft st call × (st.stored ≡ true → LacksNoSnapshot st c.coordinator call))

-- a machine has a task
abbrev pub HasFlaggedTask : {M : Type 0} → (Setting → ℕ → Machine → M → Type 0) → TraceView M → Type 0
HasFlaggedTask represents v = (a : ℕ) × (a < length v.now.machines.items) × InEachTrace represents v (λ st o events c. (u : ℕ) × ((c.machine a).part.task u ≡ true))

-- A machine has reached the count of a failure; and else a record is due, which may follow those of the call; or the call has ended; or it
-- leaves nothing; or it needs more of the store; or no ticket is left of the budget, and a machine has a task, which is one after the call's
-- order, and a full store lacks no snapshot.
abbrev pub PauseMeaning : {M : Type 0} → (Setting → ℕ → Machine → M → Type 0) → TraceView M → Pause → Type 0
PauseMeaning represents v (Reached m) = IsReachedAt represents v m
PauseMeaning represents v (Record k) = NoneReached represents v × IsDueOf v.now.coordinator (due.Record k) × OfTheCall represents v (λ st o c call. MayFollow st c.coordinator call)
PauseMeaning represents v Ended = NoneReached represents v × OfTheCall represents v (λ st o c call. HasEndedCall st call)
PauseMeaning represents v Quiet = NoneReached represents v × OfTheCall represents v (λ st o c call. LeavesNothing st call)
PauseMeaning represents v Full = NoneReached represents v × OfTheCall represents v (λ st o c call. NeedsMoreStore st c.coordinator call)
PauseMeaning represents v Spent = NoneReached represents v × IsSpentNow represents v × HasFlaggedTask represents v
