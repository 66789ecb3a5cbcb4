-- Who is pending is a vertex.
use Rattle.std.proofs.Common.{◌≡◌, ◌<◌, ◌∙◌, length, sym, ap, subst}
use Rattle.task_sets.specs.task_sched.Inner.Flags.{HasFlag}
use Rattle.task_sets.specs.task_sched.Tasks.{HasPending, TasksView, is_flagged}
use Rattle.task_sets.proofs.task_sched.task_sets.TaskSet.has_pending.Goals as goal

has_one : (t : TasksView) → length t.pending ≡ length t.task → HasFlag t.pending → HasPending t
has_one t many one = record { vertex = one.vertex; within = subst (λ n. one.vertex < n) many one.within; pending = one.has }

pub returns-clause-some : goal.returns-clause-some
returns-clause-some c = λ is.
    has_one c.args.self.now (subst (λ (t : TasksView). length t.pending ≡ length t.task) c.self.view_is (c.self.invariant.pendings ∙ sym c.self.invariant.tasks))
    (subst (λ (t : TasksView). HasFlag t.pending) c.self.view_is (c.has_some.ensures.some is))

pub returns-clause-none : goal.returns-clause-none
returns-clause-none c = λ is u. ap (λ (t : TasksView). is_flagged t.pending u) (sym c.self.view_is) ∙ c.has_some.ensures.none is u
