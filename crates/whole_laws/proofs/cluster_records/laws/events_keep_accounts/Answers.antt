-- Event by event.
use Rattle.whole_laws.proofs.cluster_records.Accounts.{accounts_kept, begun_accounts}
use Rattle.whole_laws.proofs.cluster_records.laws.events_keep_accounts.Goals as goal

pub returns-clause-begins : goal.returns-clause-begins
returns-clause-begins c = λ st base cluster is coloured. begun_accounts st is coloured base cluster

pub returns-clause-goes_on : goal.returns-clause-goes_on
returns-clause-goes_on c = λ st cluster whole event logged is may other account. accounts_kept st is cluster whole logged account event may other
