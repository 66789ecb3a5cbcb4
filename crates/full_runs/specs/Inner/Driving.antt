-- A cluster that is driven, and what it is once it is quiet.
use Rattle.std.specs.Prelude.{◌≡◌, ℕ}
use Rattle.cluster_laws.specs.cluster_core.Settings.{Setting}
use Rattle.full_scope.specs.FullUpdates.{FullUpdate}
use Rattle.full_laws.specs.FullRuns.{IsAllGiven}
use Rattle.full_laws.specs.FullWorlds.{FullWorld}
use Rattle.full_cluster.specs.declared.admitting.FullTerms.{FullTerms}
use Rattle.full_cluster.specs.declared.clusters.FullCluster.{FullCluster}
use Rattle.full_cluster.specs.declared.divisions.Division.{Division}
use Rattle.full_cluster.specs.FullClusters.{IsCluster, IsClusterOf}
use Rattle.full_cluster.specs.Given.{IsDividedAs}

-- the cluster is one of the division
abbrev pub IsClusterOn : Division → FullCluster → Type 0
IsClusterOn division c = (terms : FullTerms) × IsCluster division terms c

-- whatever world of so many machines the cluster is, nothing given is on its way there
abbrev pub IsAllGivenIn : ℕ → FullCluster → Type 0
IsAllGivenIn machines c = (st : Setting) (p : FullUpdate) (w : FullWorld) → IsClusterOf st p w c → st.machines ≡ machines → IsAllGiven w

-- the cluster of a division among so many machines, where updates are made of this program, once all that was given has come
pub record IsGivenFor (division : Division) (machines : ℕ) (p : FullUpdate) (c : FullCluster) : Type 0 where
  pub setting : Setting
  pub world : FullWorld
  pub divided : IsDividedAs setting division
  pub many : setting.machines ≡ machines
  pub is : IsClusterOf setting p world c
  pub given : IsAllGiven world
