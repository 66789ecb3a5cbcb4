-- Event after event, attempt after attempt.
use Rattle.whole_laws.proofs.cluster_records.Based.{first_base}
use Rattle.whole_laws.proofs.cluster_records.Traces.{begun, traces_go}
use Rattle.whole_laws.proofs.cluster_records.laws.traces_keep_accounts.Goals as goal

pub returns-clause-first : goal.returns-clause-first
returns-clause-first c = λ st next. first_base st next

pub returns-clause-begins : goal.returns-clause-begins
returns-clause-begins c = λ st base cluster is coloured its. begun st is coloured base cluster its

pub returns-clause-goes_on : goal.returns-clause-goes_on
returns-clause-goes_on c = λ st events old new whole logged is trace account based. traces_go events st is old new whole logged trace account based
