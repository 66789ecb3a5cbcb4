-- The course of a call whose cluster is somewhere else for a while.
pub use Rattle.cluster_step.specs.trace.Traces.{Machine, Setting, TraceView, Parts}
use Rattle.std.specs.List.{AllByRecursion}
use Rattle.std.specs.Prelude.{List, ℕ, ◌++◌}
use Rattle.cluster_laws.specs.cluster_model.Events as law
use Rattle.cluster_step.specs.trace.Traces.{Cluster, InEachTrace, IsTraceNow}
use Rattle.whole_laws.specs.cluster_whole.Whole.{IsNoRecovery}

-- Each course to where the cluster was has gone on to where it is, in the same attempt: among the events since may be acknowledgements.
abbrev pub IsLaterInAttempt : {M : Type 0} → (Setting → ℕ → Machine → M → Type 0) → TraceView M → TraceView M → Type 0
IsLaterInAttempt represents old new =
    InEachTrace represents old (λ st o events c. (more : List law.Event) × (later : Cluster) × AllByRecursion IsNoRecovery more × IsTraceNow represents new st o (events ++ more) later)

-- what stays of a course whose cluster is out: it remembers the cluster as it went out
abbrev pub apart_now : {M : Type 0} → TraceView M → TraceView M
apart_now v = record v { since = v.now }

-- the same course with this cluster, which is remembered
abbrev pub with_cluster : {M : Type 0} → TraceView M → Parts M → TraceView M
with_cluster v q = record v { since = q; now = q }
