-- The machine's admission, for each machine of the law.
use Rattle.std.proofs.Common.{◌≡◌, ℕ, false, length, subst}
use Rattle.machine_core.specs.declared.machine_parts.cores.Core.{Core}
use Rattle.task_sets.specs.task_sched.Tasks.{is_flagged}
use Rattle.snapshot_machines.proofs.locking.AnswerLemmas.{other_err}
use Rattle.placed_machines.proofs.chromatic.AdmitLemmas.{admitted_some, can_admit, can_not_admit}
use Rattle.placed_machines.proofs.chromatic.machines.ChromaticMachine.admit_one.Goals as goal

pub returns-in-Err-clause-not_now : goal.returns-in-Err-clause-not_now
returns-in-Err-clause-not_now g c is = rw (← c.self.view_is) (can_not_admit g.P.Program.meaning (record { machine = c.self.inside.machine; counts = c.self.inside.counts; window = c.self.inside.window; reports = c.self.inside.reports }) c.core.ensures.orderly c.core.ensures.places c.core.ensures.outside (c.in-Err.ensures.not_now (other_err c.in-Err.refused _ is)))

pub returns-in-Err-clause-no_memory : goal.returns-in-Err-clause-no_memory
returns-in-Err-clause-no_memory g c is = rw (← c.self.view_is) (can_admit g.P.Program.meaning (record { machine = c.self.inside.machine; counts = c.self.inside.counts; window = c.self.inside.window; reports = c.self.inside.reports }) c.core.ensures.orderly c.core.ensures.places c.core.ensures.outside (c.in-Err.ensures.no_memory (other_err c.in-Err.refused _ is)))

pub returns-clause-admitted : goal.returns-clause-admitted
returns-clause-admitted g c = rw (← c.self.view_is) (admitted_some g.P.Program.meaning (record { machine = c.self.inside.machine; counts = c.self.inside.counts; window = c.self.inside.window; reports = c.self.inside.reports }) c.core.ensures.orderly c.core.ensures.places c.core.ensures.outside (subst (λ (m : Core). length m.numbers.tasks.planned ≡ length m.numbers.tasks.task) c.core.ensures.parts c.plans-plans.ensures.flags) (subst (λ (m : Core). (u : ℕ) → is_flagged m.numbers.tasks.admitted u ≡ false → is_flagged m.numbers.tasks.planned u ≡ false) c.core.ensures.parts c.plans-plans.ensures.free) c.admit.new.self c.in_default.ensures.admitted c.admit.ensures.kept c.admit.ensures.step)
