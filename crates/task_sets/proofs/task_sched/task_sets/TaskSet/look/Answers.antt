use Rattle.std.proofs.Common.{◌≡◌, ◌<◌, ◌∙◌, Option, IfSome, length, slice_get, sym, ap, subst}
use Rattle.task_sets.specs.declared.task_sched.task_sets.Pick.{Pick}
use Rattle.task_sets.specs.task_sched.Tasks.{TasksView, IsNextPick}
use Rattle.task_sets.specs.task_sched.Inner.Picking.{IsFreeTask, pick_of}
use Rattle.task_sets.proofs.task_sched.Picks.{next_pick, pick_within}
use Rattle.task_sets.proofs.task_sched.task_sets.TaskSet.look.Goals as goal

pub returns-clause-pick : goal.returns-clause-pick
returns-clause-pick c =
    let first : c.first.result ≡ slice_get c.args.self.now.asked 0 = c.first.ensures.first ∙ ap (λ (t : TasksView). slice_get t.asked 0) c.self.view_is in
    subst (λ (o : Option Pick). IsNextPick c.args.self.now o) (sym c.pick_of.ensures) (next_pick c.args.self.now c.first.result c.free_task.result first c.free_task.ensures)

pub returns-clause-within : goal.returns-clause-within
returns-clause-within c =
    let m = c.self.inside in
    let free = subst (λ (t : TasksView). IsFreeTask t c.free_task.result) (sym c.self.view_is) c.free_task.ensures in
    subst (λ (o : Option Pick). IfSome o (λ pick. pick.vertex.0 < length c.args.self.now.task)) (sym c.pick_of.ensures)
    (subst (λ (t : TasksView). IfSome (pick_of c.first.result c.free_task.result) (λ pick. pick.vertex.0 < length t.task)) c.self.view_is
    (pick_within m.tasks.items m.pending m.admitted.items m.planned.items m.stages m.asked.among m.count m.plans m.outside m.window m.asked.line c.first.result c.free_task.result c.self.invariant c.first.ensures.among free))
