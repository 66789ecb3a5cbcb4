-- What is said of the restarts that a store lacks, and of records with them.
pub use Rattle.call_laws.specs.attempts.Entries.{is_restart}
pub use Rattle.cluster_laws.specs.cluster_core.Cuts.{Begins}
pub use Rattle.cluster_laws.specs.cluster_core.Settings.{Setting}
pub use Rattle.cluster_laws.specs.cluster_model.ByTicket.{restarts}
pub use Rattle.cluster_laws.specs.cluster_model.Leading.{Snapshot}
pub use Rattle.coordinator.specs.coord_core.Calls.{IsRecordFor}
pub use Rattle.store.specs.store_format.StoredOrders.{entry_rank}
pub use Rattle.recovery.specs.records.Keeping.{IsRecordBehind}
