-- How a call ends, told by its lists.
pub use Rattle.call_laws.specs.call_answers.Answers.{IsRunWithFailures, KeepsToWindow}
pub use Rattle.call_laws.specs.call_answers.Ends.{SpendsRun}
pub use Rattle.cluster_step.specs.trace.Calls.{HasEndedCall, MakesCall}
pub use Rattle.cluster_step.specs.drive.Pauses.{NoneReached, PauseMeaning}
pub use Rattle.cluster_laws.specs.cluster_runs.Recorded.{shared_of}
pub use Rattle.recovery.specs.GoodStores.{orders_behind}
pub use Rattle.recovery.specs.Journals.{records_size, stored_order}
pub use Rattle.engine_runs.specs.answers.Ends.{RunEndMeaning}
pub use Rattle.engine_runs.specs.stores.Stores.{Header, IsKnownTrace}
pub use Rattle.call_laws.specs.whole_calls.Telling.{NeedsMoreStore}
use Rattle.std.specs.Prelude.{Bool, List, false, length, sum_by, true, ℕ, ◌+◌, ◌++◌, ◌≡◌, ◌≤◌}
use Rattle.call_laws.specs.attempts.EngineCalls.{EngineCall}
use Rattle.call_laws.specs.attempts.Stores.{snapshots_of}
use Rattle.engine_runs.specs.finish.Gathered.{CallOpening, Cluster, TraceView, Event, IsTaskIn, Machine, RunLists, Setting}
use Rattle.cluster_step.specs.declared.drive.pauses.Pause.TheVariants as pause
use Rattle.gl_base.specs.declared.numbers.Vertex.{Vertex}
use Rattle.engine_runs.specs.declared.answers.runs.StoredEnd.{StoredEnd}
use Rattle.engine_runs.specs.declared.answers.runs.StoredEnd.TheVariants as end

-- the run of this call, whose end is saved or not and whose store had so many snapshots, ends so
abbrev pub CallEndMeaning : {M : Type 0} → Bool → TraceView M → Setting → CallOpening → ℕ → EngineCall → RunLists → StoredEnd → Type 0
CallEndMeaning saves v st o had call lists how =
    RunEndMeaning saves (shared_of st v.failures) st.machines st.window o.first.left had o.kept (snapshots_of call) call.last.struck lists how

-- The course makes this call, whose lists are those of a run with failures that makes no more updates than there were tickets. A store with
-- these snapshots has its snapshots behind those with which it began; and as the course pauses the run ends. Where snapshots are taken it keeps
-- to the window.
pub record IsEndedRun {M : Type 0} (represents : Setting → ℕ → Machine → M → Type 0) (v : TraceView M) (start bodies : List (List ℕ)) (st : Setting) (o : CallOpening) (events : List Event) (c : Cluster) (lists : RunLists) : Type 0 where
  pub call : EngineCall
  pub makes : MakesCall st v.failures o events c call
  pub added : List (List ℕ)
  pub stored : bodies ≡ start ++ added
  pub snapshots : orders_behind (stored_order start) added ≡ snapshots_of call
  pub is : IsRunWithFailures (shared_of st v.failures) st.machines o.kept o.resumed call.last.struck lists
  pub keeps : st.stored ≡ true → KeepsToWindow st.window o.kept (snapshots_of call) lists
  pub few : sum_by (λ count. count) lists.done ≤ o.first.left
  pub finished : st.stored ≡ true → (saves : Bool) → PauseMeaning represents v pause.Ended → CallEndMeaning saves v st o (length start) call lists end.Finished
  pub quiet : PauseMeaning represents v pause.Quiet → CallEndMeaning false v st o (length start) call lists end.Finished
  pub spent : PauseMeaning represents v pause.Spent → (left : Vertex) → IsTaskIn st c left.0 → SpendsRun (shared_of st v.failures) o.first.left left.0 call.last.struck lists
  pub spent_room : st.stored ≡ true → PauseMeaning represents v pause.Spent → (left : Vertex) → IsTaskIn st c left.0 → (saves : Bool) → CallEndMeaning saves v st o (length start) call lists (end.Spent left)
  pub full : NoneReached represents v → NeedsMoreStore st c.coordinator call → (saves : Bool) → CallEndMeaning saves v st o (length start) call lists (end.Full (length bodies) (65 + records_size bodies))
