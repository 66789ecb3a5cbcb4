-- The updates of an attempt, and of all attempts of a call, as one order.
use Rattle.std.specs.Prelude.{List, ℕ, ◌++◌, ◌<◌, ◌≡◌}
use Rattle.gl_base.specs.declared.entries.Entry.{Entry}
use Rattle.cluster_laws.specs.cluster_core.Replays.{IsReplay, tasks_of}
use Rattle.cluster_laws.specs.cluster_core.Settings.{Setting}
use Rattle.cluster_laws.specs.cluster_model.Clusters.{Cluster}
use Rattle.whole_laws.specs.cluster_whole.Views.{world_of}
use Rattle.graph_core.specs.DataGraph.{size}
use Rattle.seq_run.specs.Orders.{IsValidOrder, replay, tasks_after}
use Rattle.cluster_step.specs.clusters.Cuts.{HasGoodBase}

-- The base's order and these updates are valid from the start state of the program on, their replay on the undivided graph gives the numbers
-- that the owners of the vertices have, and they leave the tasks that the updates leave.
pub record GoesOnFromBase (st : Setting) (c : Cluster) (order : List Entry) : Type 0 where
  pub valid : IsValidOrder st.graph st.program (c.base.order ++ order)
  pub numbers : (v : ℕ) → v < size st.graph → ((c.machine (st.owner v)).part.datum v).value ≡ (replay st.graph st.program (c.base.order ++ order)).vertex v
  pub tasks : (u : ℕ) → u < size st.graph → tasks_of st order u ≡ tasks_after st.graph st.program (c.base.order ++ order) u

-- The updates of the attempt are one order, from the attempt's first numbers on; and where the base is good the base's order goes before it.
pub record HasOneOrder (st : Setting) (c : Cluster) : Type 0 where
  pub order : List Entry
  pub replay : IsReplay st (world_of c) order
  pub whole : HasGoodBase st c → GoesOnFromBase st c order
