-- What is said of graphs, programs and orders.
pub use Rattle.graph_core.specs.DataGraph.{DataGraph, size}
pub use Rattle.update_api.specs.Updates.{Update}
pub use Rattle.seq_run.specs.States.{start_state}
pub use Rattle.seq_run.specs.Orders.{replay}
pub use Rattle.seq_run.specs.Runs.{AreNumbers}
pub use Rattle.cluster_laws.specs.cluster_runs.Attempts.{Shared}
pub use Rattle.call_laws.specs.attempts.EngineCalls.{IsOrderInTurn}
pub use Rattle.call_laws.specs.attempts.Stores.{AreGoodOrders}
