-- What the law sees of the base with which a call opens, and of the cluster before its first attempt.
pub use Rattle.call_laws.specs.attempts.EngineCalls.{ticket_above}
pub use Rattle.cluster_laws.specs.cluster_model.Clusters.{BaseView, Cluster}
pub use Rattle.whole_laws.specs.cluster_records.Bases.{IsBase}
pub use Rattle.cluster_laws.specs.cluster_runs.Recorded.{shared_of}
pub use Rattle.cluster_laws.specs.cluster_core.Settings.{Setting}
pub use Rattle.graph_core.specs.DataGraph.{size}
pub use Rattle.recovery.specs.GoodStores.{IsGoodBase}
pub use Rattle.seq_run.specs.Runs.{AreNumbers}
pub use Rattle.call_laws.specs.whole_calls.Following.{AreJobFailures}
pub use Rattle.call_laws.specs.whole_calls.Opened.{IsOpened}
use Rattle.std.specs.Prelude.{Bool, List, [], if◌then◌else◌, slice_index, ℕ, ◌++◌, ◌∷◌}
use Rattle.gl_base.specs.declared.entries.Entry.{Entry}
use Rattle.gl_base.specs.declared.entries.Entry.TheVariants.{Restart}
use Rattle.gl_base.specs.declared.snapshots.Base.{Base}
use Rattle.whole_laws.specs.cluster_ending.FourWaves.{fresh_cluster}
use Rattle.cluster_laws.specs.cluster_model.Leading.{first_coordinator}
use Rattle.seq_run.specs.States.{GraphState}

-- its numbers by vertex and by edge
abbrev pub base_numbers : Base → GraphState
base_numbers base = record { vertex = slice_index base.values.items; edge = slice_index base.edges.items }

-- behind the order that is resumed stands a restart
abbrev pub order_opened : Bool → List Entry → List Entry
order_opened resumed order = order ++ (if resumed then Restart (ticket_above order) ∷ [] else [])

-- the base of the law with which a call opens from this one
abbrev pub base_opened : Bool → Base → BaseView
base_opened resumed base = record { number = base.number; order = order_opened resumed base.order.items; numbers = base_numbers base }

-- No machine has done anything: the first ticket, how many there are, and how many bytes of the store are in use.
abbrev pub cluster_before : Setting → ℕ → ℕ → ℕ → Cluster
cluster_before st next left store_end = record (fresh_cluster st) { coordinator = first_coordinator st 0 store_end; next = next; left = left }
