use Rattle.engine_runs.proofs.attempt_machines.BeginLemmas.{go_back, run_now}
use Rattle.engine_runs.proofs.attempt_machines.EngineLemmas.{led_by}
use Rattle.engine_runs.proofs.attempt_machines.laws.machines_go_back.Goals as goal

pub returns-clause-back : goal.returns-clause-back
returns-clause-back g t engine old st o events c base store members = go_back st o events g.P.Program.meaning engine old c base store members

pub returns-clause-runs : goal.returns-clause-runs
returns-clause-runs g t program_graph program owner colours run st o events = run_now st o events program_graph program owner colours run

pub returns-clause-engine : goal.returns-clause-engine
returns-clause-engine g t = led_by
