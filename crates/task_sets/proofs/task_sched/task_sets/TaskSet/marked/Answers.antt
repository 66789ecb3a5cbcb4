use Rattle.std.proofs.Common.{◌≡◌, ◌<◌, ◌+◌, ◌-◌, ◌==◌, ◌∙◌, Bool, true, false, if◌then◌else◌, List, length, slice_set, sym, ap, subst, refl, arith}
use Rattle.std.proofs.lemmas.List.{get_or_default}
use Rattle.task_sets.specs.vertex_queue.Inner.Queues.{bit_if}
use Rattle.task_sets.proofs.vertex_queue.Queueing.{flag_within}
use Rattle.task_sets.specs.task_sched.Tasks.{TasksView, is_flagged}
use Rattle.task_sets.specs.task_sched.Inner.Kept.{AreTasksKept}
use Rattle.task_sets.specs.task_sched.Inner.Stages.{is_staged}
use Rattle.task_sets.proofs.task_sched.Keeping.{planned_counted, kept_marked, chosen_same}
use Rattle.task_sets.proofs.task_sched.task_sets.TaskSet.marked.Goals as goal

pub invariant_of-self : goal.invariant_of-self
invariant_of-self c =
    let m = c.self.inside in
    let v = c.args.v.0 in
    let busy : is_flagged m.admitted.items v ≡ true = subst (λ (t : TasksView). is_flagged t.admitted v ≡ true) (sym c.self.view_is) c.requires.admitted in
    let there = flag_within m.admitted.items v busy in
    let as_many = c.self.invariant.admissions in
    let plannings = c.self.invariant.plannings in
    let tasks = c.self.invariant.tasks in
    let within : v < m.count = omega (arith, there, as_many) in
    let in_q : v < length m.planned.items = omega (arith, within, plannings) in
    let in_t : v < length m.tasks.items = omega (arith, within, tasks) in
    let plan : c.one_where-plan.result ≡ bit_if (is_flagged m.planned.items v) = c.one_where-plan.ensures ∙ ap bit_if (c.index.ensures ∙ get_or_default m.planned.items v c.index.result.now false in_q) in
    let some = planned_counted m.planned.items v in_q in
    let counted = c.self.invariant.counted in
    let fewer : (m.plans - c.one_where-plan.result) + bit_if (is_flagged m.planned.items v) ≡ m.plans = omega (arith, plan, some, counted) in
    let task : is_flagged m.tasks.items v ≡ true = sym (c.index-2.ensures ∙ get_or_default m.tasks.items v c.index-2.result.now false in_t) ∙ c.if-index.true in
    subst (λ (p : List Bool). AreTasksKept m.count m.tasks.items p (slice_set m.admitted.items v false) (slice_set m.planned.items v false) c.add_again.new.self m.asked.among (m.plans - c.one_where-plan.result) m.outside m.window) (sym c.take.ensures)
    (kept_marked m.count m.tasks.items m.pending m.admitted.items m.planned.items m.stages c.add_again.new.self m.asked.among m.plans (m.plans - c.one_where-plan.result) m.outside m.window v c.self.invariant within busy fewer
    c.add_again.ensures.count (λ u. subst (λ (b : Bool). is_staged c.add_again.new.self u ≡ (if u == v then b else is_staged m.stages u)) (sym task) (c.add_again.ensures.waits u)))

pub invariant_of-self-else-index : goal.invariant_of-self-else-index
invariant_of-self-else-index c =
    let m = c.self.inside in
    let v = c.args.v.0 in
    let busy : is_flagged m.admitted.items v ≡ true = subst (λ (t : TasksView). is_flagged t.admitted v ≡ true) (sym c.self.view_is) c.requires.admitted in
    let there = flag_within m.admitted.items v busy in
    let as_many = c.self.invariant.admissions in
    let plannings = c.self.invariant.plannings in
    let tasks = c.self.invariant.tasks in
    let within : v < m.count = omega (arith, there, as_many) in
    let in_q : v < length m.planned.items = omega (arith, within, plannings) in
    let in_t : v < length m.tasks.items = omega (arith, within, tasks) in
    let plan : c.one_where-plan.result ≡ bit_if (is_flagged m.planned.items v) = c.one_where-plan.ensures ∙ ap bit_if (c.index.ensures ∙ get_or_default m.planned.items v c.index.result.now false in_q) in
    let some = planned_counted m.planned.items v in_q in
    let counted = c.self.invariant.counted in
    let fewer : (m.plans - c.one_where-plan.result) + bit_if (is_flagged m.planned.items v) ≡ m.plans = omega (arith, plan, some, counted) in
    let none : is_flagged m.tasks.items v ≡ false = sym (c.index-2.ensures ∙ get_or_default m.tasks.items v c.index-2.result.now false in_t) ∙ c.if-index.false in
    subst (λ (p : List Bool). AreTasksKept m.count m.tasks.items p (slice_set m.admitted.items v false) (slice_set m.planned.items v false) m.stages m.asked.among (m.plans - c.one_where-plan.result) m.outside m.window) (sym c.take.ensures)
    (kept_marked m.count m.tasks.items m.pending m.admitted.items m.planned.items m.stages m.stages m.asked.among m.plans (m.plans - c.one_where-plan.result) m.outside m.window v c.self.invariant within busy fewer
    refl (chosen_same m.tasks.items m.admitted.items m.stages v c.self.invariant.free_tasks none))
