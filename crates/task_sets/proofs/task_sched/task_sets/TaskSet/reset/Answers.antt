use Rattle.std.proofs.Common.{◌∙◌, nat_lt, length, ap}
use Rattle.task_sets.proofs.task_sched.Keeping.{and_true, and_false, kept_new}
use Rattle.task_sets.proofs.task_sched.task_sets.TaskSet.reset.Goals as goal

pub invariant_of-self : goal.invariant_of-self
invariant_of-self c =
    let m = c.self.inside in
    let is = c.self.invariant in
    kept_new m.count c.set_all.new.flags.items c.clear.new.self c.set_all-2.new.flags.items c.set_all-3.new.flags.items c.reset.new.self c.clear-2.new.self.among m.window
    is.few
    (c.set_all.ensures.count ∙ is.tasks)
    (c.clear.ensures.count ∙ is.pendings)
    (c.set_all-2.ensures.count ∙ is.admissions)
    (c.set_all-3.ensures.count ∙ is.plannings)
    (c.reset.ensures.count ∙ is.staged)
    (c.clear-2.ensures.count ∙ is.line)
    (λ u. c.set_all.ensures.each u ∙ and_true (nat_lt u (length m.tasks.items)) ∙ ap (nat_lt u) is.tasks)
    c.clear.ensures.none
    (λ u. c.set_all-2.ensures.each u ∙ and_false (nat_lt u (length m.admitted.items)))
    (λ u. c.set_all-3.ensures.each u ∙ and_false (nat_lt u (length m.planned.items)))
    c.reset.ensures.all
    c.clear-2.ensures.none
