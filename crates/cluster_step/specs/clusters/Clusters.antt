-- A cluster that takes snapshots, and the cluster of the law that it stands for.
pub use Rattle.cluster_laws.specs.cluster_model.Clusters.{BaseView, Cluster}
pub use Rattle.cluster_step.specs.clusters.Inner.Writing.{HaveLinks}
pub use Rattle.coordinator.specs.coord_core.Coordinators.{AreCalls, IsCoordinatorOf, IsEngineOf, StoreView}
pub use Rattle.coordinator.specs.declared.coord_core.steps.Engine.{Engine}
pub use Rattle.coordinator.specs.machine_api.Going.{IsGoing, IsSnapSetting}
pub use Rattle.cluster_step.specs.clusters.Lines.{AreReports, messages_on, told_on}
pub use Rattle.coordinator.specs.machine_api.Promises.{Machine, Setting}
pub use Rattle.cluster_step.specs.declared.clusters.parts.Parts.{Parts}
use Rattle.std.specs.Prelude.{List, None, Option, Some, false, length, slice_index_or, suc, true, ℕ, ◌+◌, ◌<◌, ◌^◌, ◌≡◌}
use Rattle.cluster_laws.specs.cluster_core.Recovering.{going_on}
use Rattle.cluster_laws.specs.cluster_model.Events.{MayOccur, Recover, recovers}
use Rattle.graph_core.specs.DataGraph.{size}

-- These parts stand for this cluster of the law; and events have led to that. The coordinator's links stand behind the machines'.
pub record IsSavingClusterOf {M : Type 0} (represents : Setting → ℕ → Machine → M → Type 0) (st : Setting) (p : Parts M) (c : Cluster) : Type 0 where
  pub many : length p.machines.items ≡ st.machines
  pub small : st.machines < 65535
  pub links : HaveLinks p.links (suc st.machines)
  pub machines : (a : ℕ) (d : M) → a < st.machines → represents st a (c.machine a) (slice_index_or p.machines.items a d)
  pub flags : length p.failed.items ≡ st.machines
  pub runs : (a : ℕ) → a < st.machines → (c.machine a).failed ≡ slice_index_or p.failed.items a false
  pub told : (a b : ℕ) → a < st.machines → b < st.machines → c.link a b ≡ told_on p.links a b
  pub calls : (a : ℕ) → a < st.machines → AreCalls (messages_on p.links st.machines a) (c.calls a)
  pub reports : (a : ℕ) → a < st.machines → AreReports (messages_on p.links a st.machines) (c.reports a)
  pub coordinator : IsCoordinatorOf st p.coordinator c.coordinator
  pub next : c.next ≡ p.next
  pub left : c.left ≡ p.left
  pub few : p.next + p.left < 2 ^ 64
  pub stopped : c.stopped ≡ p.stopped
  pub going : IsGoing st c

-- of each cluster of the law for which they stand
abbrev pub InEachCluster : {M : Type 0} → (Setting → ℕ → Machine → M → Type 0) → Parts M → (Setting → Cluster → Type 0) → Type 0
InEachCluster represents p holds = (st : Setting) (c : Cluster) → IsSnapSetting st → IsSavingClusterOf represents st p c → holds st c

-- there is one
abbrev pub StandsForSaving : {M : Type 0} → (Setting → ℕ → Machine → M → Type 0) → Parts M → Type 0
StandsForSaving represents p = (st : Setting) × (c : Cluster) × IsSnapSetting st × IsSavingClusterOf represents st p c

-- they stand for the clusters for which they stood
abbrev pub StandsForSameSaving : {M : Type 0} → (Setting → ℕ → Machine → M → Type 0) → Parts M → Parts M → Type 0
StandsForSameSaving represents old new = InEachCluster represents old (λ st c. IsSavingClusterOf represents st new c)

-- ---- where it begins

-- Snapshots are taken, and the store is that of the base and of the graph.
pub record IsStoreFor (store : StoreView) (st : Setting) (base : BaseView) (before : Cluster) : Type 0 where
  pub stored : st.stored ≡ true
  pub vertices : size st.graph ≡ store.vertices
  pub edges : length st.graph.edges ≡ store.edges
  pub newest : base.number ≡ store.newest
  pub store_end : (recovers st base before).coordinator.store_end ≡ store.store_end

-- without a store no snapshots are taken
abbrev pub BeginsWith : Option StoreView → Setting → BaseView → Cluster → Type 0
BeginsWith None st base before = st.stored ≡ false
BeginsWith (Some store) st base before = IsStoreFor store st base before

-- The machines begin an attempt from this base, whatever was before, in a cluster of this setting, whose engine is this one, with this store
-- or without one. Of the base's order nothing is asked, nor that its numbers are the replay of that.
pub record StartsSaving {M : Type 0} (represents : Setting → ℕ → Machine → M → Type 0) (xs : List M) (engine : Engine) (store : Option StoreView) (next left : ℕ) (st : Setting) (base : BaseView) (before : Cluster) : Type 0 where
  pub setting : IsSnapSetting st
  pub led : IsEngineOf engine st.engine
  pub many : length xs ≡ st.machines
  pub each : (a : ℕ) (d : M) → a < st.machines → represents (going_on st base.numbers base.number) a ((recovers st base before).machine a) (slice_index_or xs a d)
  pub begins : BeginsWith store st base before
  pub first : before.next ≡ next
  pub tickets : before.left ≡ left

-- Recover may occur in this cluster, for which the parts stand, and the machines begin again from its base.
pub record GoesOnWith {M : Type 0} (represents : Setting → ℕ → Machine → M → Type 0) (old : Parts M) (xs : List M) (engine : Engine) (store : Option StoreView) (st : Setting) (c : Cluster) (base : BaseView) : Type 0 where
  pub stood : IsSavingClusterOf represents st old c
  pub may : MayOccur st c (Recover base)
  pub starts : StartsSaving represents xs engine store old.next old.left st base c
