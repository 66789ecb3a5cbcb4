-- Where a machine has a task, one is found.
use Rattle.std.proofs.Common.{sym, true≢false, ◌∙◌}
use Rattle.engine_runs.proofs.finish.tasks.task_left.Goals as goal

pub returns-in-None : goal.returns-in-None
returns-in-None g c = λ has st o events x now. let task = has.2 st o events x now in absurd (true≢false (sym task.1 ∙ c.in-None.ensures.none has.0 has.1 st o events x now task.0))

pub returns-in-Some : goal.returns-in-Some
returns-in-Some g c = λ has. c.in-Some.ensures.some
