use Rattle.engine_runs.proofs.finish.EndLemmas.{ended}
use Rattle.engine_runs.proofs.finish.laws.calls_end_so.Goals as goal

pub returns : goal.returns
returns g t = ended g.M.SavingMachine.represents
