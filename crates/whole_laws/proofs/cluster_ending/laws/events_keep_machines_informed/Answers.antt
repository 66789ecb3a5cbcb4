-- Event by event.
use Rattle.whole_laws.proofs.cluster_ending.Reporting.{traces_informed, informed_kept, recovered_informed}
use Rattle.whole_laws.proofs.cluster_ending.laws.events_keep_machines_informed.Goals as goal

pub returns-clause-begins : goal.returns-clause-begins
returns-clause-begins c = λ st base cluster. recovered_informed st base cluster

pub returns-clause-goes_on : goal.returns-clause-goes_on
returns-clause-goes_on c = λ st cluster event whole was may. informed_kept st cluster whole was event may

pub returns-clause-trace : goal.returns-clause-trace
returns-clause-trace c = λ st events old new is whole was trace. traces_informed st is events old new whole was trace
