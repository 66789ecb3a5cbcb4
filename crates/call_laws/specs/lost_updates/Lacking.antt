-- What is said of updates that an order lacks.
pub use Rattle.cluster_laws.specs.cluster_core.Replays.{ticket_of}
pub use Rattle.call_laws.specs.whole_calls.Lost.{is_lacking, is_update_at}
