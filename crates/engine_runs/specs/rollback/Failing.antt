-- Machines that have reached the count of a failure fail.
pub use Rattle.cluster_step.specs.trace.Traces.{ArePassing, CallOpening, Cluster, TraceView, InEachTrace, IsTraceNow, IsSameAttempt, Machine, Setting, newest_setting}
pub use Rattle.call_laws.specs.whole_calls.Following.{has_reached}
use Rattle.std.specs.Prelude.{List, false, true, ℕ, ◌++◌, ◌≡◌}
use Rattle.gl_base.specs.declared.jobs.FailureAt.{FailureAt}
use Rattle.cluster_laws.specs.cluster_model.Events as law

-- The later cluster has come of the other where machines failed, and nothing else happened.
pub record IsSameButFailed (failures : List FailureAt) (c later : Cluster) : Type 0 where
  pub base : later.base ≡ c.base
  pub coordinator : later.coordinator ≡ c.coordinator
  pub stopped : later.stopped ≡ c.stopped
  pub reached : (a : ℕ) → has_reached failures later a ≡ has_reached failures c a
  pub failed : (a : ℕ) → (c.machine a).failed ≡ true → (later.machine a).failed ≡ true

-- In this course machines have failed since, and nothing else has happened. Where the run goes on, each of these machines that has reached
-- the count of a failure has failed.
pub record HaveFailedSince {M : Type 0} (represents : Setting → ℕ → Machine → M → Type 0) (new : TraceView M) (these : ℕ → Type 0) (st : Setting) (o : CallOpening) (events : List law.Event) (c : Cluster) : Type 0 where
  pub more : List law.Event
  pub later : Cluster
  pub passing : ArePassing more
  pub now : IsTraceNow represents new st o (events ++ more) later
  pub same : IsSameButFailed new.failures c later
  pub failed : c.stopped ≡ false → (a : ℕ) → these a → has_reached new.failures later a ≡ true → (later.machine a).failed ≡ true
