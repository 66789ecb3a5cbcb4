-- The coordinator puts none out.
use Rattle.whole_laws.proofs.cluster_ending.Stepless.{traces_without_steps, no_step_front, no_steps_kept}
use Rattle.whole_laws.proofs.cluster_ending.laws.locks_know_no_steps.Goals as goal

pub returns-clause-begins : goal.returns-clause-begins
returns-clause-begins c = λ st base cluster a. tt

pub returns-clause-goes_on : goal.returns-clause-goes_on
returns-clause-goes_on c = λ st cluster event locks was may. no_steps_kept st locks cluster was event may

pub returns-clause-trace : goal.returns-clause-trace
returns-clause-trace c = λ st events old new locks was trace. traces_without_steps st locks events old new was trace

pub returns-clause-front : goal.returns-clause-front
returns-clause-front c = λ cluster a colour behind was first. no_step_front cluster was a colour behind first
