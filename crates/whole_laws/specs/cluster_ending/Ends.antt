-- What is left where the waves have shown the end.
use Rattle.std.specs.Prelude.{List, None, [], false, ℕ, ◌<◌, ◌≡◌}
use Rattle.gl_base.specs.declared.entries.Entry.{Entry}
use Rattle.gl_base.specs.declared.scopes.ScopeId.{ScopeId}
use Rattle.cluster_laws.specs.cluster_core.Replays.{entries_of, replay_of, tasks_of}
use Rattle.cluster_laws.specs.cluster_core.Settings.{Setting}
use Rattle.cluster_laws.specs.cluster_core.Worlds.{way}
use Rattle.whole_laws.specs.cluster_ending.Watched.{IsWatched, Watch}
use Rattle.cluster_laws.specs.cluster_model.Clusters.{Cluster}
use Rattle.cluster_laws.specs.cluster_model.Events.{Event, PutBegin}
use Rattle.whole_laws.specs.cluster_whole.Views.{world_of}
use Rattle.whole_laws.specs.cluster_whole.Whole.{IsWhole}
use Rattle.graph_core.specs.DataGraph.{size}
use Rattle.seq_run.specs.Orders.{IsValidFrom, all_tasks}

-- the cluster is whole, and its waves are as they should be
abbrev pub IsFollowed : Setting → Cluster → Type 0
IsFollowed st c = IsWhole st c × (watch : Watch) × IsWatched st c watch

-- the event begins no snapshot
abbrev pub IsNoBegin : Event → Type 0
IsNoBegin event = event ≡ PutBegin → ⊥

-- The logs are the parts of one valid order. No task is left after it, and its replay on the undivided graph gives the numbers that
-- the owners of the vertices have.
pub record HasFinishedOrder (st : Setting) (c : Cluster) : Type 0 where
  pub order : List Entry
  pub valid : IsValidFrom st.graph st.program st.start (all_tasks st.graph) order
  pub logs : (a : ℕ) → (c.machine a).part.log ≡ entries_of a order
  pub finished : (u : ℕ) → u < size st.graph → tasks_of st order u ≡ false
  pub numbers : (v : ℕ) → v < size st.graph → ((c.machine (st.owner v)).part.datum v).value ≡ (replay_of st order).vertex v

-- No vertex is a task or pending, no scope is in flight or waits for a lock, and no message is on its way from one machine to another.
pub record HasEnded (st : Setting) (c : Cluster) : Type 0 where
  pub tasks : (a v : ℕ) → a < st.machines → v < size st.graph → (c.machine a).part.task v ≡ false
  pub pending : (a v : ℕ) → a < st.machines → v < size st.graph → (c.machine a).part.pending v ≡ false
  pub scopes : (s : ScopeId) → s.home.0 < st.machines → (c.machine s.home.0).part.flight s ≡ None
  pub queues : (a x : ℕ) → a < st.machines → x < size st.graph → (c.machine a).part.queue x ≡ []
  pub ways : (p q : ℕ) → p < st.machines → q < st.machines → way (world_of c) p q ≡ []
