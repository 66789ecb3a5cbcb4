-- Where nothing is given, each number is what it comes to.
use Rattle.full_laws.proofs.FullCoherence.{numbers_law, tasks_law}
use Rattle.full_laws.proofs.laws.given_clusters_have_their_replay.Goals as goal

pub returns-clause-numbers : goal.returns-clause-numbers
returns-clause-numbers c = λ st p w kept given i a low keep. numbers_law st p w kept given i a low keep

pub returns-clause-tasks : goal.returns-clause-tasks
returns-clause-tasks c = λ st p w kept given u low. tasks_law st p w kept given u low
