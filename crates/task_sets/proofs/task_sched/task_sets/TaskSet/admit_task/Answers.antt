use Rattle.std.proofs.Common.{◌≡◌, ◌<◌, ◌+◌, true, false, length, sym, subst, arith}
use Rattle.task_sets.proofs.vertex_queue.Queueing.{room_for_one}
use Rattle.task_sets.specs.task_sched.Tasks.{TasksView, is_flagged, is_free, is_below, is_open}
use Rattle.task_sets.proofs.task_sched.Keeping.{free_has, kept_update}
use Rattle.task_sets.proofs.task_sched.task_sets.TaskSet.admit_task.Goals as goal

pub overflow_add-self : goal.overflow_add-self
overflow_add-self c =
    let m = c.self.inside in
    let v = c.args.v.0 in
    let there : v < length m.tasks.items = subst (λ (t : TasksView). v < length t.task) (sym c.self.view_is) c.requires.within in
    let many = c.self.invariant.tasks in
    let plannings = c.self.invariant.plannings in
    let task : is_free m.tasks.items m.admitted.items v ≡ true = subst (λ (t : TasksView). is_free t.task t.admitted v ≡ true) (sym c.self.view_is) c.requires.task in
    let less = room_for_one m.planned.items v (omega (arith, there, many, plannings)) (c.self.invariant.planned_ones v (free_has m.tasks.items m.admitted.items v task).1) in
    let counted = c.self.invariant.counted in
    let few = c.self.invariant.few in
    record { fits = omega (arith, less, counted, plannings, few) }

pub invariant_of-self : goal.invariant_of-self
invariant_of-self c =
    let m = c.self.inside in
    let v = c.args.v.0 in
    let there : v < length m.tasks.items = subst (λ (t : TasksView). v < length t.task) (sym c.self.view_is) c.requires.within in
    let many = c.self.invariant.tasks in
    let within : v < m.count = omega (arith, there, many) in
    let task : is_free m.tasks.items m.admitted.items v ≡ true = subst (λ (t : TasksView). is_free t.task t.admitted v ≡ true) (sym c.self.view_is) c.requires.task in
    let quiet : is_flagged m.pending v ≡ false = subst (λ (t : TasksView). is_flagged t.pending v ≡ false) (sym c.self.view_is) c.requires.quiet in
    let room : is_below m.window (m.outside + m.plans) ≡ true = subst (λ (t : TasksView). is_open t ≡ true) (sym c.self.view_is) c.requires.room in
    kept_update m.count m.tasks.items m.pending m.admitted.items m.planned.items m.stages c.admit.new.self m.asked.among m.plans m.outside m.window v c.self.invariant within task quiet room
    c.admit.ensures.count c.admit.ensures.waits
