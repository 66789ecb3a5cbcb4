-- An update at once in a cluster that takes snapshots, as a run of events of the law.
pub use Rattle.coordinator.specs.machine_api.AtOnce.{MayUpdateWithin, locks_at_once}
pub use Rattle.cluster_step.specs.clusters.Clusters.{Cluster, InEachCluster, IsSavingClusterOf, Machine, Parts, Setting, StandsForSameSaving}
use Rattle.std.specs.Prelude.{IfOk, IsErrOf, List, OnErr, Result, [], map, ℕ, ◌++◌, ◌<◌, ◌∷◌, ◌≡◌, ◌⊎◌}
use Rattle.gl_base.specs.declared.numbers.MachineNo.{MachineNo}
use Rattle.gl_base.specs.declared.numbers.Vertex.{Vertex}
use Rattle.gl_base.specs.declared.refusals.Refused.{Refused}
use Rattle.gl_base.specs.declared.refusals.Refused.TheVariants.{NoMemory, NotNow}
use Rattle.cluster_laws.specs.cluster_core.Effects.{next_scope}
use Rattle.cluster_laws.specs.cluster_model.Events as law
use Rattle.cluster_step.specs.clusters.Events.{CanNotTakePlace}
use Rattle.cluster_step.specs.declared.clusters.events.Event.TheVariants as event
use Rattle.cluster_step.specs.declared.clusters.events.Local.TheVariants as local

-- machine a admits a scope of v, grants each of its locks in turn, of which there is none with colours, and makes its update
abbrev pub events_at_once : Setting → ℕ → ℕ → Machine → List law.Event
events_at_once st a v m = law.Admit a v ∷ map (law.Grant a) (locks_at_once st v a) ++ law.Update (next_scope a m.part) ∷ []

-- v might be updated at once at machine a, and what has become of the code stands for where these events lead
pub record IsMadeAtOnce {M : Type 0} (represents : Setting → ℕ → Machine → M → Type 0) (st : Setting) (c : Cluster) (a v : ℕ) (new : Parts M) : Type 0 where
  pub may : MayUpdateWithin st a v (c.machine a)
  pub after : Cluster
  pub trace : law.IsTrace st c (events_at_once st a v (c.machine a)) after
  pub code : IsSavingClusterOf represents st new after

-- v may be updated at once at machine a
pub record MayBeMadeAtOnce (st : Setting) (c : Cluster) (a v : ℕ) : Type 0 where
  pub admit : law.MayOccur st c (law.Admit a v)
  pub may : MayUpdateWithin st a v (c.machine a)
  pub ticket : 0 < c.left

-- ---- in each cluster of the law

abbrev pub TakesPlaceAtOnce : {M : Type 0} → (Setting → ℕ → Machine → M → Type 0) → Parts M → ℕ → ℕ → Parts M → Type 0
TakesPlaceAtOnce represents old a v new = InEachCluster represents old (λ st c. IsMadeAtOnce represents st c a v new)

abbrev pub CanTakePlaceAtOnce : {M : Type 0} → (Setting → ℕ → Machine → M → Type 0) → Parts M → ℕ → Type 0
CanTakePlaceAtOnce represents old a = (v : ℕ) × InEachCluster represents old (λ st c. MayBeMadeAtOnce st c a v)

-- no ticket is left, the machine may admit no vertex, or it may admit one that may not be updated at once
abbrev pub CanNotTakePlaceAtOnce : {M : Type 0} → (Setting → ℕ → Machine → M → Type 0) → Parts M → MachineNo → Type 0
CanNotTakePlaceAtOnce represents old at =
    (old.left ≡ 0)
    ⊎ (CanNotTakePlace represents old (event.Local (local.Admit at))
    ⊎ ((v : ℕ) × InEachCluster represents old (λ st c. law.MayOccur st c (law.Admit at.0 v) × (MayUpdateWithin st at.0 v (c.machine at.0) → ⊥))))

-- What a call answers: a vertex of the machine was updated at once; or none might be that it looks at, and nothing has changed; or memory
-- was wanting where one might.
pub record AnswersAtOnce {M : Type 0} (represents : Setting → ℕ → Machine → M → Type 0) (old : Parts M) (at : MachineNo) (answer : Result Vertex Refused) (new : Parts M) : Type 0 where
  pub made : IfOk answer (λ v. TakesPlaceAtOnce represents old at.0 v.0 new)
  pub not_now : IsErrOf answer NotNow → CanNotTakePlaceAtOnce represents old at
  pub no_memory : IsErrOf answer NoMemory → CanTakePlaceAtOnce represents old at.0
  pub unchanged : OnErr answer (StandsForSameSaving represents old new)
