-- A machine asks as it makes an update and as it hears of an acknowledged snapshot; what is outside grows by nothing else.
use Rattle.whole_laws.proofs.cluster_records.Asking.{counted}
use Rattle.whole_laws.proofs.cluster_records.Fewness.{asking_kept, begun_asking, in_time}
use Rattle.whole_laws.proofs.cluster_records.laws.machines_ask_in_time.Goals as goal

pub returns-clause-begins : goal.returns-clause-begins
returns-clause-begins c = λ st base cluster. begun_asking st base cluster

pub returns-clause-goes_on : goal.returns-clause-goes_on
returns-clause-goes_on c = λ st cluster whole event logged is may other account asking. asking_kept st is cluster whole logged account asking event may other

pub returns-clause-counted : goal.returns-clause-counted
returns-clause-counted c = λ st cluster whole logged a is account asking low. counted st is cluster whole logged account.lists asking a low

pub returns-clause-asked : goal.returns-clause-asked
returns-clause-asked c = λ st cluster logged a asking low some stored half. in_time st cluster logged asking a low some stored half

pub returns-clause-wanted : goal.returns-clause-wanted
returns-clause-wanted c = λ st cluster logged asking wanted. asking.wanted wanted
