use Rattle.std.proofs.Common.{◌≡◌, ◌<◌, ◌∙◌, true, false, length, sym, ap, arith}
use Rattle.std.proofs.lemmas.List.{get_or_default}
use Rattle.task_sets.specs.task_sched.Tasks.{TasksView, is_flagged}
use Rattle.task_sets.proofs.task_sched.Keeping.{kept_woken, kept_woken_admitted}
use Rattle.task_sets.proofs.task_sched.task_sets.TaskSet.wake.Goals as goal

pub invariant_of-self : goal.invariant_of-self
invariant_of-self c =
    let m = c.self.inside in
    let v = c.args.v.0 in
    let tasks = c.self.invariant.tasks in
    let admissions = c.self.invariant.admissions in
    let within : v < length m.tasks.items = omega (arith, c.requires, ap (λ (t : TasksView). length t.task) c.self.view_is) in
    let in_a : v < length m.admitted.items = omega (arith, within, tasks, admissions) in
    let free : is_flagged m.admitted.items v ≡ false = sym (c.index.ensures ∙ get_or_default m.admitted.items v c.index.result.now false in_a) ∙ c.if-not-index.true in
    kept_woken m.count m.tasks.items m.pending m.admitted.items m.planned.items m.stages c.add.new.self m.asked.among m.plans m.outside m.window v c.self.invariant within free c.add.ensures.count c.add.ensures.waits

pub invariant_of-self-else-not-index : goal.invariant_of-self-else-not-index
invariant_of-self-else-not-index c =
    let m = c.self.inside in
    let v = c.args.v.0 in
    let tasks = c.self.invariant.tasks in
    let admissions = c.self.invariant.admissions in
    let within : v < length m.tasks.items = omega (arith, c.requires, ap (λ (t : TasksView). length t.task) c.self.view_is) in
    let in_a : v < length m.admitted.items = omega (arith, within, tasks, admissions) in
    let busy : is_flagged m.admitted.items v ≡ true = sym (c.index.ensures ∙ get_or_default m.admitted.items v c.index.result.now false in_a) ∙ c.if-not-index.false in
    kept_woken_admitted m.count m.tasks.items m.pending m.admitted.items m.planned.items m.stages m.asked.among m.plans m.outside m.window v c.self.invariant busy
