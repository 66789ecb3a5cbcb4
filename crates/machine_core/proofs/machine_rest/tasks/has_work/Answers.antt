-- What the tasks pick is work, and so is a task.
use Rattle.std.proofs.Common.{sym, ◌∙◌}
use Rattle.machine_core.proofs.machine_rest.TaskLemmas.{pick_is_work}
use Rattle.machine_core.proofs.machine_rest.tasks.has_work.Goals as goal

pub returns-then-is_some-clause-some : goal.returns-then-is_some-clause-some
returns-then-is_some-clause-some c = λ is. pick_is_work c.args.tasks.now c.look.result c.look.ensures.pick c.look.ensures.within c.look.ensures.asked (sym c.is_some.ensures ∙ is)
