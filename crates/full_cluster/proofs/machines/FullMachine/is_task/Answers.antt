use Rattle.std.proofs.Common.{◌∙◌, Bool, List, ap}
use Rattle.full_cluster.specs.Given.{is_marked}
use Rattle.full_cluster.proofs.machines.FullMachine.is_task.Goals as goal

pub returns : goal.returns
returns c = λ st part is low.
    c.nth_mark.ensures ∙ ap (λ (marks : List Bool). is_marked marks c.args.u.0) c.deref.ensures.value ∙ is.numbers.tasks_are c.args.u.0 low
