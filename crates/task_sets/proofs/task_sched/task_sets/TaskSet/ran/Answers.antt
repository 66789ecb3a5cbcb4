use Rattle.std.proofs.Common.{◌≡◌, ◌+◌, ◌-◌, ◌<◌, true, false, sym, subst, arith}
use Rattle.task_sets.specs.vertex_queue.Inner.Queues.{bit_if}
use Rattle.task_sets.proofs.vertex_queue.Queueing.{flag_within}
use Rattle.task_sets.specs.task_sched.Tasks.{TasksView, is_flagged}
use Rattle.task_sets.proofs.task_sched.Keeping.{planned_counted, kept_ran}
use Rattle.task_sets.proofs.task_sched.task_sets.TaskSet.ran.Goals as goal

pub invariant_of-self : goal.invariant_of-self
invariant_of-self c =
    let m = c.self.inside in
    let v = c.args.v.0 in
    let busy : is_flagged m.admitted.items v ≡ true = subst (λ (t : TasksView). is_flagged t.admitted v ≡ true) (sym c.self.view_is) c.requires.admitted in
    let quiet : is_flagged m.pending v ≡ false = subst (λ (t : TasksView). is_flagged t.pending v ≡ false) (sym c.self.view_is) c.requires.no_snapshot in
    let there = flag_within m.admitted.items v busy in
    let as_many = c.self.invariant.admissions in
    let plannings = c.self.invariant.plannings in
    let within : v < m.count = omega (arith, there, as_many) in
    let one : bit_if (is_flagged m.planned.items v) ≡ 1 = rw (c.self.invariant.other_ones v busy quiet) in
    let some = planned_counted m.planned.items v (omega (arith, within, plannings)) in
    let counted = c.self.invariant.counted in
    let fewer : (m.plans - 1) + 1 ≡ m.plans = omega (arith, one, some, counted) in
    kept_ran m.count m.tasks.items m.pending m.admitted.items m.planned.items m.stages m.asked.among m.plans (m.plans - 1) m.outside m.window v c.self.invariant within busy quiet fewer
