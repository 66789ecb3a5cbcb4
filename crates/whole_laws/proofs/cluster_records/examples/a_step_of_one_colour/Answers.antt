-- By computation.
use Rattle.whole_laws.proofs.cluster_records.FirstStep.{coloured, trace, no_grant, no_other, offered}
use Rattle.whole_laws.proofs.cluster_records.examples.a_step_of_one_colour.Goals as goal

pub returns-clause-colours : goal.returns-clause-colours
returns-clause-colours c = coloured

pub returns-clause-trace : goal.returns-clause-trace
returns-clause-trace c = trace

pub returns-clause-offered : goal.returns-clause-offered
returns-clause-offered c = offered

pub returns-clause-no_other : goal.returns-clause-no_other
returns-clause-no_other c = no_other

pub returns-clause-no_grant : goal.returns-clause-no_grant
returns-clause-no_grant c = no_grant
