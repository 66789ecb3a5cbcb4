-- A cluster in code is a cluster of the model.
use Rattle.std.specs.Prelude.{◌≡◌, ℕ, ◌+◌, ◌^◌, ◌<◌, ◌≤◌, None, List, [], length, slice_index_or}
use Rattle.gl_base.specs.declared.scopes.ScopeId.{ScopeId}
use Rattle.cluster_laws.specs.cluster_core.Settings.{Setting}
use Rattle.full_scope.specs.FullUpdates.{FullUpdate}
use Rattle.full_laws.specs.FullActions.{FullAction, MayHappenFull, after_action}
use Rattle.full_laws.specs.FullMessages as model
use Rattle.full_laws.specs.FullParts.{FullPart}
use Rattle.full_laws.specs.FullRuns.{IsFullRun, IsFullStart}
use Rattle.full_laws.specs.FullWorlds.{FullWorld}
use Rattle.full_cluster.specs.declared.admitting.FullTerms.{FullTerms}
use Rattle.full_cluster.specs.declared.clusters.FullCluster.{FullCluster}
use Rattle.full_cluster.specs.declared.divisions.Division.{Division}
use Rattle.full_cluster.specs.declared.machines.FullMachine.{FullMachine}
use Rattle.full_cluster.specs.declared.queues.FullQueues.{FullQueues}
use Rattle.full_cluster.specs.FullMachines.{HasTerms, IsMachineOf}
use Rattle.full_cluster.specs.FullQueues.{AreQueuesOf}
use Rattle.full_cluster.specs.Given.{IsDividedAs}

-- Actions that might happen, one after another, led from a start to this world.
pub record IsReached (st : Setting) (p : FullUpdate) (w : FullWorld) : Type 0 where
  pub start : FullWorld
  pub actions : List FullAction
  pub starts : IsFullStart st p start
  pub run : IsFullRun st p start actions w

-- the setting has this graph, its owners and these terms
pub record IsSettingOf (st : Setting) (division : Division) (terms : FullTerms) : Type 0 where
  pub divided : IsDividedAs st division
  pub terms_are : HasTerms st terms

-- The machine is number a of the setting, with a queue for each, and it is the one that has this part.
pub record IsFullSeat (st : Setting) (a : ℕ) (m : FullMachine) (part : FullPart) : Type 0 where
  pub me : m.me.0 ≡ a
  pub queues : length m.out.queues.items ≡ st.machines
  pub is : IsMachineOf st m part

-- the links from one machine to all have these messages
pub record IsLinkOf (st : Setting) (links : FullQueues) (on : ℕ → List model.FullMessage) : Type 0 where
  pub count : length links.queues.items ≡ st.machines
  pub are : AreQueuesOf st links.queues.items on

-- nothing is under way at this machine, nor from it
pub record IsUnused (w : FullWorld) (a : ℕ) : Type 0 where
  pub out : (q : ℕ) → (w.part a).out q ≡ []
  pub link : (q : ℕ) → w.link a q ≡ []
  pub flight : (s : ScopeId) → (w.part a).flight s ≡ None

-- These machines, links and tickets are those of this world, which was reached from a start.
pub record AreOfWorld (st : Setting) (p : FullUpdate) (w : FullWorld) (machines : List FullMachine) (links : List FullQueues) (next left : ℕ) : Type 0 where
  pub reached : IsReached st p w
  pub count : length machines ≡ st.machines
  pub link_count : length links ≡ st.machines
  pub seats : (a : ℕ) (d : FullMachine) → a < length machines → IsFullSeat st a (slice_index_or machines a d) (w.part a)
  pub links_are : (a : ℕ) (d : FullQueues) → a < length links → IsLinkOf st (slice_index_or links a d) (w.link a)
  -- there are no others
  pub beyond : (a : ℕ) → st.machines ≤ a → IsUnused w a
  pub drawn : w.next ≡ next
  pub tickets : w.left ≡ left
  -- each ticket is a number of 64 bits
  pub few : next + left < 2 ^ 64

-- the cluster is this world, which was reached from a start
abbrev pub IsClusterOf : Setting → FullUpdate → FullWorld → FullCluster → Type 0
IsClusterOf st p w c = AreOfWorld st p w c.machines.items c.links.items c.next c.left

-- the cluster is some world of a division and of terms
pub record IsCluster (division : Division) (terms : FullTerms) (c : FullCluster) : Type 0 where
  pub setting : Setting
  pub program : FullUpdate
  pub world : FullWorld
  pub fits : IsSettingOf setting division terms
  pub is : IsClusterOf setting program world c

-- the cluster is some world of a division and of terms where updates are made of this program
pub record IsClusterFor (division : Division) (terms : FullTerms) (p : FullUpdate) (c : FullCluster) : Type 0 where
  pub setting : Setting
  pub world : FullWorld
  pub fits : IsSettingOf setting division terms
  pub is : IsClusterOf setting p world c

-- the action might happen, and the cluster is the world after it
pub record HasApplied (st : Setting) (p : FullUpdate) (w : FullWorld) (action : FullAction) (c : FullCluster) : Type 0 where
  pub may : MayHappenFull st w action
  pub after : IsClusterOf st p (after_action st p w action) c
