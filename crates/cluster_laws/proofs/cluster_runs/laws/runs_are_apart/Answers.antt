-- From world to world.
use Rattle.cluster_laws.proofs.cluster_runs.Apart.{locked_run, step_run}
use Rattle.cluster_laws.proofs.cluster_runs.laws.runs_are_apart.Goals as goal

pub returns-clause-locks : goal.returns-clause-locks
returns-clause-locks c = λ st old actions new stage is locks places run. locked_run st is locks actions old new stage places run

pub returns-clause-step : goal.returns-clause-step
returns-clause-step c = λ st colour colours step old actions new coloured apart in_step run. step_run st colour colours step coloured apart actions old new in_step run
