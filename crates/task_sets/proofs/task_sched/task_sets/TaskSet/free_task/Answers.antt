use Rattle.std.proofs.Common.{◌≡◌, ◌∙◌, true, sym, subst, true≢false}
use Rattle.task_sets.specs.task_sched.Tasks.{TasksView, is_open}
use Rattle.task_sets.specs.task_sched.Inner.Picking.{IsFreeTask}
use Rattle.task_sets.specs.contracts.task_sched.task_sets.TaskSet.{the_view}
use Rattle.task_sets.proofs.task_sched.Picks.{staged_first}
use Rattle.task_sets.proofs.task_sched.task_sets.TaskSet.free_task.Goals as goal

pub returns-then-has_room : goal.returns-then-has_room
returns-then-has_room c =
    let room = sym c.has_room.ensures ∙ c.if-has_room.true in
    subst (λ (t : TasksView). IsFreeTask t c.front.result) c.self.view_is
    (staged_first (the_view c.self.inside) c.self.inside.stages c.front.result c.self.invariant.free_tasks (subst (λ (t : TasksView). is_open t ≡ true) (sym c.self.view_is) room) c.front.ensures)

pub returns-else-has_room : goal.returns-else-has_room
returns-else-has_room c = λ room. absurd (true≢false (sym room ∙ (sym c.has_room.ensures ∙ c.if-has_room.false)))
