-- What an attempt began with.
use Rattle.std.specs.Prelude.{List, true, ℕ, ◌++◌, ◌<◌, ◌≡◌}
use Rattle.gl_base.specs.declared.entries.Entry.{Entry}
use Rattle.cluster_laws.specs.cluster_core.Settings.{Setting}
use Rattle.cluster_laws.specs.cluster_model.ByTicket.{StandByTicket}
use Rattle.cluster_laws.specs.cluster_model.Clusters.{BaseView, Cluster}
use Rattle.whole_laws.specs.cluster_records.Recorded.{HaveSameNumbers}
use Rattle.whole_laws.specs.cluster_whole.Logged.{Logged, all_entries}
use Rattle.graph_core.specs.DataGraph.{size}
use Rattle.seq_run.specs.Orders.{IsValidOrder, replay, tasks_after}

-- The order is valid from the start state of the program on, and leaves every vertex a task, as a restart at its end does.
pub record IsOpening (st : Setting) (order : List Entry) : Type 0 where
  pub valid : IsValidOrder st.graph st.program order
  pub tasks : (u : ℕ) → u < size st.graph → tasks_after st.graph st.program order u ≡ true

-- The order of the base is such and stands by ticket, and the base's numbers are its replay from the start state of the program on.
pub record IsBase (st : Setting) (base : BaseView) (next : ℕ) : Type 0 where
  pub front : IsOpening st base.order
  pub numbers : HaveSameNumbers st.graph base.numbers (replay st.graph st.program base.order)
  pub by_ticket : StandByTicket 0 base.order next

-- The attempt goes on from its base: it began with the base's number and numbers, and its updates stand by ticket behind the base's order.
pub record IsBased (st : Setting) (c : Cluster) (logged : List Logged) : Type 0 where
  pub number : c.base.number ≡ st.base
  pub start : c.base.numbers ≡ st.start
  pub front : IsOpening st c.base.order
  pub numbers : HaveSameNumbers st.graph c.base.numbers (replay st.graph st.program c.base.order)
  pub by_ticket : StandByTicket 0 (c.base.order ++ all_entries logged) c.next
