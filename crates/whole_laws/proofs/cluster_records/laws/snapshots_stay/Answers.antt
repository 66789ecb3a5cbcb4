-- A record adds one, and nothing else changes them.
use Rattle.whole_laws.proofs.cluster_records.Stopping.{trace_keeps}
use Rattle.whole_laws.proofs.cluster_records.laws.snapshots_stay.Goals as goal

pub returns : goal.returns
returns c = λ st events old new none trace. trace_keeps events st none old new trace
