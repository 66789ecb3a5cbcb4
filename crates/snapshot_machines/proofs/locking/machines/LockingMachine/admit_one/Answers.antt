-- The machine's admission, for each machine of the law.
use Rattle.std.proofs.Common.{◌≡◌, ℕ, false, length, subst}
use Rattle.machine_core.specs.declared.machine_parts.cores.Core.{Core}
use Rattle.task_sets.specs.task_sched.Tasks.{is_flagged}
use Rattle.snapshot_machines.proofs.locking.AnswerLemmas.{other_err}
use Rattle.snapshot_machines.proofs.locking.ScopeLemmas.{admission_back_now, admitted_now, can_admit, can_not_admit}
use Rattle.snapshot_machines.proofs.locking.machines.LockingMachine.admit_one.Goals as goal

pub returns-in-Err-clause-not_now : goal.returns-in-Err-clause-not_now
returns-in-Err-clause-not_now g c is = rw (← c.self.view_is) (can_not_admit g.P.Program.meaning (record { machine = c.self.inside.machine; counts = c.self.inside.counts; window = c.self.inside.window; reports = c.self.inside.reports }) c.admit.ensures.order.orderly c.admit.ensures.order.places c.admit.ensures.order.outside (c.in-Err.ensures.not_now (other_err c.in-Err.refused _ is)))

pub returns-in-Err-clause-no_memory : goal.returns-in-Err-clause-no_memory
returns-in-Err-clause-no_memory g c is = rw (← c.self.view_is) (can_admit g.P.Program.meaning (record { machine = c.self.inside.machine; counts = c.self.inside.counts; window = c.self.inside.window; reports = c.self.inside.reports }) c.admit.ensures.order.orderly c.admit.ensures.order.places c.admit.ensures.order.outside (c.in-Err.ensures.no_memory (other_err c.in-Err.refused _ is)))

pub returns-in-Err-clause-unchanged : goal.returns-in-Err-clause-unchanged
returns-in-Err-clause-unchanged g c = rw (← c.self.view_is) (admission_back_now g.P.Program.meaning (record { machine = c.self.inside.machine; counts = c.self.inside.counts; window = c.self.inside.window; reports = c.self.inside.reports }) c.admit.new.self c.admit.ensures.kept c.admit.ensures.program c.admit.ensures.settings c.admit.ensures.order.orderly c.admit.ensures.order.places c.admit.ensures.order.outside (subst (λ (m : Core). (u : ℕ) → is_flagged m.numbers.tasks.admitted u ≡ false → is_flagged m.numbers.tasks.planned u ≡ false) c.core.ensures.parts c.plans-plans.ensures.free) c.in-Err.ensures.plans c.admit.ensures.local c.in-Err.ensures.unchanged)

pub returns-clause-admitted : goal.returns-clause-admitted
returns-clause-admitted g c = rw (← c.self.view_is) (admitted_now g.P.Program.meaning (record { machine = c.self.inside.machine; counts = c.self.inside.counts; window = c.self.inside.window; reports = c.self.inside.reports }) c.admit.new.self c.admit.ensures.kept c.admit.ensures.program c.admit.ensures.settings c.admit.ensures.order.orderly c.admit.ensures.order.places c.admit.ensures.order.outside (subst (λ (m : Core). length m.numbers.tasks.planned ≡ length m.numbers.tasks.task) c.core.ensures.parts c.plans-plans.ensures.flags) (subst (λ (m : Core). (u : ℕ) → is_flagged m.numbers.tasks.admitted u ≡ false → is_flagged m.numbers.tasks.planned u ≡ false) c.core.ensures.parts c.plans-plans.ensures.free) c.in_default.ensures.admitted)
