use Rattle.std.proofs.Common.{◌∙◌, Bool, sym, subst}
use Rattle.task_sets.specs.task_sched.Tasks.{IsPicked}
use Rattle.task_sets.proofs.task_sched.Picks.{first_listed}
use Rattle.task_sets.proofs.task_sched.task_sets.TaskSet.next.Goals as goal

pub admit_pending-requires-clause-asked : goal.admit_pending-requires-clause-asked
admit_pending-requires-clause-asked c =
    let t = c.args.self.now in
    let v = c.in_ok-pick.pick.vertex in
    let first = subst (λ (b : Bool). IsPicked t b v) c.if-pick.true c.in_ok-pick.ensures.pick in
    sym (c.in_ok-pick.ensures.asked v.0) ∙ first_listed t.asked v first
