-- Machine by machine.
use Rattle.whole_laws.proofs.cluster_whole.WindowEvents.{windows_kept}
use Rattle.whole_laws.proofs.cluster_whole.Within.{back_within}
use Rattle.whole_laws.proofs.cluster_whole.laws.events_keep_windows.Goals as goal

pub returns-clause-kept : goal.returns-clause-kept
returns-clause-kept c = λ st cluster event may within. windows_kept st cluster within event may

pub returns-clause-begins : goal.returns-clause-begins
returns-clause-begins c = λ st base cluster a. back_within st base.numbers base.number a (cluster.machine a)
