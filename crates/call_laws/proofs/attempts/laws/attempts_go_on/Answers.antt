-- An order that goes on from a beginning.
use Rattle.call_laws.proofs.attempts.Beginning.{longer_numbers, longer_tasks, longer_valid}
use Rattle.cluster_laws.specs.cluster_core.Cuts.{cut_of}
use Rattle.call_laws.proofs.attempts.laws.attempts_go_on.Goals as goal

pub returns-clause-valid : goal.returns-clause-valid
returns-clause-valid c = λ shared b a is attempt. longer_valid shared b is a.made attempt.valid

pub returns-clause-tasks : goal.returns-clause-tasks
returns-clause-tasks c = λ shared b a is. longer_tasks shared b is a.made

pub returns-clause-numbers : goal.returns-clause-numbers
returns-clause-numbers c = λ shared b a. longer_numbers shared b a.made

pub returns-clause-snapshots : goal.returns-clause-snapshots
returns-clause-snapshots c = λ shared b a count. longer_numbers shared b (cut_of count a.made)
