-- What the lists of a run are, told of a cluster and of the events that led to it.
pub use Rattle.cluster_laws.specs.merged_logs.Merges.{IsMerge}
pub use Rattle.call_laws.specs.whole_calls.Lost.{AreLostIn, all_logged, machine_logs}
use Rattle.std.specs.Prelude.{List, ◌++◌, ◌≡◌}
use Rattle.gl_base.specs.Lists.{AreEach}
use Rattle.gl_base.specs.declared.entries.Entry.{Entry}
use Rattle.gl_base.specs.declared.jobs.FailureAt.{FailureAt}
use Rattle.call_laws.specs.call_answers.Answers.{RunLists, reached_places}
use Rattle.cluster_laws.specs.cluster_core.Recovering.{going_on}
use Rattle.cluster_laws.specs.cluster_core.Settings.{Setting}
use Rattle.cluster_laws.specs.cluster_model.Clusters.{BaseView, Cluster}
use Rattle.cluster_laws.specs.cluster_model.Events.{Event, recovers}
use Rattle.cluster_laws.specs.cluster_model.Machines.{completed}

-- The order is that of the last attempt's base and what its machines have logged, merged; lost is what the recoveries among the events took
-- away; and the machines' counts and the failures that fired are those of the updates that they completed.
pub record ListsOfTrace (st : Setting) (failures : List FailureAt) (base : BaseView) (first : Cluster) (events : List Event) (c : Cluster) (lists : RunLists) : Type 0 where
  pub merged : List Entry
  pub merges : IsMerge (all_logged (machine_logs st.machines c)) merged
  pub order : lists.order ≡ c.base.order ++ merged
  pub lost : AreLostIn (going_on st base.numbers base.number) (recovers st base first) events lists.lost
  pub done : AreEach st.machines (λ m count. count ≡ completed (c.machine m)) lists.done
  pub fired : lists.fired ≡ reached_places (λ m. completed (c.machine m)) 0 failures
