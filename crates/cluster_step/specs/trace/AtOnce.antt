-- An update at once in the course of a call.
pub use Rattle.cluster_step.specs.clusters.AtOnce.{CanNotTakePlaceAtOnce, MayBeMadeAtOnce, MayUpdateWithin, events_at_once}
use Rattle.std.specs.Prelude.{List, false, true, ℕ, ◌++◌, ◌≡◌, ◌⊎◌}
use Rattle.gl_base.specs.declared.numbers.MachineNo.{MachineNo}
use Rattle.cluster_laws.specs.cluster_model.Events as law
use Rattle.cluster_step.specs.trace.Traces.{CallOpening, Cluster, TraceView, InEachTrace, IsTraceNow, Machine, Setting, newest_setting}
use Rattle.call_laws.specs.whole_calls.Following.{has_reached}

-- Machine a had reached the count of no failure, v might be updated at once there, and the course goes on by what the machine does in turn.
pub record HasHappenedAtOnce {M : Type 0} (represents : Setting → ℕ → Machine → M → Type 0) (old : TraceView M) (a v : ℕ) (new : TraceView M) (st : Setting) (o : CallOpening) (events : List law.Event) (c : Cluster) : Type 0 where
  pub free : has_reached old.failures c a ≡ false
  pub may : MayUpdateWithin (newest_setting st o events) a v (c.machine a)
  pub later : Cluster
  pub now : IsTraceNow represents new st o (events ++ events_at_once (newest_setting st o events) a v (c.machine a)) later

abbrev pub HappensAtOnceInCall : {M : Type 0} → (Setting → ℕ → Machine → M → Type 0) → TraceView M → ℕ → ℕ → TraceView M → Type 0
HappensAtOnceInCall represents old a v new = InEachTrace represents old (HasHappenedAtOnce represents old a v new)

-- some vertex of the machine may be updated at once, which has reached the count of no failure
abbrev pub CanHappenAtOnceInCall : {M : Type 0} → (Setting → ℕ → Machine → M → Type 0) → TraceView M → ℕ → Type 0
CanHappenAtOnceInCall represents old a = (v : ℕ) × InEachTrace represents old (λ st o events c. MayBeMadeAtOnce (newest_setting st o events) c a v × (has_reached old.failures c a ≡ false))

-- the machine has reached the count of a failure, or the cluster can't
abbrev pub IsLocalUpdateDisabled : {M : Type 0} → (Setting → ℕ → Machine → M → Type 0) → TraceView M → MachineNo → Type 0
IsLocalUpdateDisabled represents old at = InEachTrace represents old (λ st o events c. has_reached old.failures c at.0 ≡ true) ⊎ CanNotTakePlaceAtOnce represents old.now at
