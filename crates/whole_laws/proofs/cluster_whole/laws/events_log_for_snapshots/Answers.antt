-- What an event does to order and cut says which updates are logged.
use Rattle.whole_laws.proofs.cluster_whole.Wholeness.{event_logs, recovered_logs}
use Rattle.whole_laws.proofs.cluster_whole.laws.events_log_for_snapshots.Goals as goal

pub returns-clause-begins : goal.returns-clause-begins
returns-clause-begins c = λ st base cluster is coloured. recovered_logs st is coloured base cluster

pub returns-clause-goes_on : goal.returns-clause-goes_on
returns-clause-goes_on c = λ st cluster whole event logged is may other was. event_logs st is cluster whole event logged may other was
