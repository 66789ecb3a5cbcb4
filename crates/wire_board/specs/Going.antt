-- A cluster that has gone on from another by events of the law, in the same attempt.
pub use Rattle.cluster_laws.specs.cluster_model.Clusters.{Cluster}
pub use Rattle.gl_base.specs.declared.jobs.FailureAt.{FailureAt}
pub use Rattle.cluster_step.specs.clusters.Clusters.{IsSavingClusterOf}
pub use Rattle.cluster_step.specs.declared.clusters.parts.Parts.{Parts}
pub use Rattle.cluster_step.specs.trace.Traces.{ArePassing}
pub use Rattle.coordinator.specs.machine_api.Going.{IsSnapSetting}
pub use Rattle.coordinator.specs.machine_api.Promises.{Machine, Setting}
use Rattle.std.specs.Prelude.{List, slice_index_or, ℕ, ◌<◌, ◌≡◌}
use Rattle.cluster_laws.specs.cluster_model.Events as law
use Rattle.call_laws.specs.whole_calls.Following.{FollowJob}

-- each machine had completed so many updates as the attempt began
abbrev pub CountsAre : List ℕ → Setting → Cluster → Type 0
CountsAre done st c = (a : ℕ) → a < st.machines → (c.machine a).done ≡ slice_index_or done a 0

-- These events lead from the cluster to another one, for which the parts stand. They acknowledge no snapshot and begin no attempt, and they
-- follow the job, where each machine had completed so many updates as the attempt began.
pub record GoesTo {X : Type 0} (represents : Setting → ℕ → Machine → X → Type 0) (failures : List FailureAt) (done : List ℕ) (new : Parts X) (st : Setting) (c : Cluster) : Type 0 where
  pub events : List law.Event
  pub passing : ArePassing events
  pub later : Cluster
  pub trace : law.IsTrace st c events later
  pub follows : CountsAre done st c → FollowJob st failures c events
  pub code : IsSavingClusterOf represents st new later

-- from each cluster for which the old parts stand
abbrev pub GoesOn : {X : Type 0} → (Setting → ℕ → Machine → X → Type 0) → List FailureAt → List ℕ → Parts X → Parts X → Type 0
GoesOn represents failures done old new = (st : Setting) (c : Cluster) → IsSnapSetting st → IsSavingClusterOf represents st old c → GoesTo represents failures done new st c
