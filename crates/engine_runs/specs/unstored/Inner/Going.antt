-- Where a call without a store is as it goes on, and as it ends.
pub use Rattle.cluster_step.specs.drive.Unsaved.{PausesUnsaved}
pub use Rattle.cluster_step.specs.trace.Traces.{CallOpening, TraceView, IsTraceNow}
pub use Rattle.engine_runs.specs.Calls.{ArePlacesOf, Cluster, AnyMachine, Header, IsAnyMachineOf, IsHeaderOf, IsKnownAt, IsRunAt, IsSameCall, IsTaskIn, Setting}
pub use Rattle.engine_runs.specs.declared.calls.StoredCall.{StoredCall}
use Rattle.std.specs.List.{AllByRecursion}
use Rattle.std.specs.Prelude.{List, None, [], false, length, true, ℕ, ◌≡◌}
use Rattle.call_laws.specs.attempts.Entries.{is_restart}
use Rattle.cluster_step.specs.declared.drive.unsaved.UnsavedPause.TheVariants as unsaved
use Rattle.engine_runs.specs.declared.answers.runs.StoredEnd.{StoredEnd}
use Rattle.engine_runs.specs.declared.answers.runs.StoredEnd.TheVariants.{DiskFault, Finished, Full, Spent}
use Rattle.gl_base.specs.declared.entries.Entry.{Entry}
use Rattle.graph_core.specs.DataGraph.{DataGraph, IsDataGraph}
use Rattle.update_api.specs.Updates.{Update}

-- all entries are restarts
abbrev pub AreRestartsAlone : List Entry → Type 0
AreRestartsAlone entries = AllByRecursion (λ entry. is_restart entry ≡ true) entries

-- In this setting the call has begun with so many tickets, from the start, as beside a store for this header that has no snapshot.
pub record HasBegunUnstored {P : Type 0} (meaning : P → Update) (call : StoredCall P) (header : Header) (budget : ℕ) (st : Setting) : Type 0 where
  pub opening : CallOpening
  pub resumed_is : opening.resumed ≡ false
  pub tickets : opening.first.left ≡ budget
  pub known : IsKnownAt meaning call.trace call header [] [] st opening

-- The call can go on: its graph is placed on its machines, which take no snapshots, and the run wasn't stopped. It has no store and no snapshot, and
-- its newest attempt began with restarts alone.
pub record CanGoOnUnstored {P : Type 0} (g : DataGraph) (call : StoredCall P) : Type 0 where
  pub places : ArePlacesOf g (length call.trace.now.machines.items) call.places
  pub graph : IsDataGraph g
  pub window : call.places.run.window ≡ None
  pub running : call.trace.now.stopped ≡ false
  pub stored : call.restarts.stored.items ≡ []
  pub snapshots : call.snapshots.items ≡ []
  pub saves : call.saves_end ≡ false
  pub restarts : AreRestartsAlone call.order.items

-- The call has gone on, in each setting of the run, and can go on.
pub record GoesOnUnstored {P : Type 0} (meaning : P → Update) (g : DataGraph) (program : Update) (old new : StoredCall P) : Type 0 where
  pub can : CanGoOnUnstored g new
  pub same : IsSameCall old new
  pub known : (header : Header) (st : Setting) (o : CallOpening) → IsRunAt g program old.places st → IsKnownAt meaning old.trace old header [] [] st o → IsKnownAt meaning new.trace new header [] [] st o

-- what a pause of this course gives for the end of the run: nothing is left, or the budget is spent and this vertex is left
abbrev pub GivesUnstored : {P : Type 0} → (P → Update) → TraceView (AnyMachine P) → Setting → Cluster → StoredEnd → Type 0
GivesUnstored meaning v st c Finished = PausesUnsaved (IsAnyMachineOf meaning) v unsaved.Quiet
GivesUnstored meaning v st c (Spent left) = PausesUnsaved (IsAnyMachineOf meaning) v unsaved.Spent × IsTaskIn st c left.0
GivesUnstored meaning v st c (Full stored bytes) = ⊥
GivesUnstored meaning v st c DiskFault = ⊥

-- in each setting the call has paused so that the run ends so
abbrev pub EndsCallUnstored : {P : Type 0} → (P → Update) → StoredCall P → StoredEnd → Type 0
EndsCallUnstored meaning call how =
    (header : Header) (st : Setting) (o : CallOpening) (known : IsKnownAt meaning call.trace call header [] [] st o) → GivesUnstored meaning call.trace st known.was.cluster how
