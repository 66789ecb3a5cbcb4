use Rattle.engine_runs.proofs.attempt_machines.BeginLemmas.{start_call}
use Rattle.engine_runs.proofs.attempt_machines.laws.machines_start_calls.Goals as goal

pub returns : goal.returns
returns g t = start_call g.P.Program.meaning
