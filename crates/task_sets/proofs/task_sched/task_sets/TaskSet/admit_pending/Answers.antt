use Rattle.std.proofs.Common.{◌≡◌, ◌<◌, ◌∙◌, Some, true, false, Bool, List, length, slice_get, slice_set, sym, ap, subst, arith}
use Rattle.task_sets.specs.vertex_queue.Lines.{LineView, without}
use Rattle.task_sets.specs.task_sched.Tasks.{TasksView, is_free}
use Rattle.task_sets.specs.task_sched.Inner.Kept.{AreTasksKept}
use Rattle.task_sets.proofs.task_sched.Keeping.{kept_snapshot}
use Rattle.task_sets.proofs.task_sched.task_sets.TaskSet.admit_pending.Goals as goal

pub invariant_of-self : goal.invariant_of-self
invariant_of-self c =
    let m = c.self.inside in
    let v = c.args.v.0 in
    let there : v < length m.tasks.items = subst (λ (t : TasksView). v < length t.task) (sym c.self.view_is) c.requires.within in
    let many = c.self.invariant.tasks in
    let within : v < m.count = omega (arith, there, many) in
    let asked : is_free m.pending m.admitted.items v ≡ true = subst (λ (t : TasksView). is_free t.pending t.admitted v ≡ true) (sym c.self.view_is) c.requires.asked in
    let first : c.pop.result ≡ Some c.args.v = c.pop.ensures.first ∙ subst (λ (t : TasksView). slice_get t.asked 0 ≡ Some c.args.v) (sym c.self.view_is) c.requires.first in
    let among : c.pop.new.self.among ≡ slice_set m.asked.among v false = ap (λ (l : LineView). l.among) (c.pop.ensures.rest ∙ ap (without m.asked) first) in
    subst (λ (flags : List Bool). AreTasksKept m.count m.tasks.items m.pending (slice_set m.admitted.items v true) m.planned.items c.admit.new.self flags m.plans m.outside m.window) (sym among)
    (kept_snapshot m.count m.tasks.items m.pending m.admitted.items m.planned.items m.stages c.admit.new.self m.asked.among m.plans m.outside m.window v c.self.invariant within asked
    c.admit.ensures.count c.admit.ensures.waits)
