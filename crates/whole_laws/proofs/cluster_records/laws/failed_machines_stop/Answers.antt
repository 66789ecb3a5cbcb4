-- Each guard of what a machine does asks that it hasn't failed.
use Rattle.whole_laws.proofs.cluster_records.Stopping.{trace_stops}
use Rattle.whole_laws.proofs.cluster_records.laws.failed_machines_stop.Goals as goal

pub returns : goal.returns
returns c = λ st events old new a none trace failed. trace_stops events st none old new a trace failed
