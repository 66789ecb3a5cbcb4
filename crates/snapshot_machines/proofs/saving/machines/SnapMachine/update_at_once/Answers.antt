-- The update is made at once, and then kept by its vertex's mark.
use Rattle.std.proofs.Common.{ℕ, ◌+◌, ap, ◌∙◌, sym}
use Rattle.partition.specs.machine_numbers.Views.{TasksView}
use Rattle.machine_core.specs.declared.machine_parts.cores.Core.{Core}
use Rattle.snapshot_machines.proofs.saving.StayLemmas.{in_order, logged_stays, stays_updated}
use Rattle.snapshot_machines.proofs.saving.machines.SnapMachine.update_at_once.Goals as goal

pub invariant_of-self-in-Ok : goal.invariant_of-self-in-Ok
invariant_of-self-in-Ok g c =
    let m = c.self.inside in
    let is = c.self.invariant in
    let e = c.in-Ok.ensures in
    let parts = logged_stays _ _ m.snaps c.reserve.new.self c.log.new.self c.reserve.ensures.same c.log.ensures.logged in
    stays_updated m.core c.update_at_once.new.core m.snaps c.log.new.self m.seen is e.orderly e.places e.rows (ap (λ (x : Core). x.terms) e.rest) e.local e.own e.marks parts.0 parts.1
    (ap (λ (t : TasksView). t.outside) e.run.rest ∙ ap (λ (k : ℕ). k + 1) is.outside ∙ sym parts.2)

pub returns-in-Err-clause-not_now : goal.returns-in-Err-clause-not_now
returns-in-Err-clause-not_now g c = rw (← c.self.view_is) c.in-Err.ensures.refused

pub returns-in-Ok-clause-updated : goal.returns-in-Ok-clause-updated
returns-in-Ok-clause-updated g c = rw (← c.self.view_is) c.in-Ok.ensures.updated

pub returns-in-Ok-clause-run : goal.returns-in-Ok-clause-run
returns-in-Ok-clause-run g c = rw (← c.self.view_is) c.in-Ok.ensures.run

pub returns-in-Ok-clause-unchanged : goal.returns-in-Ok-clause-unchanged
returns-in-Ok-clause-unchanged g c = tt

pub returns-in-Ok-clause-same : goal.returns-in-Ok-clause-same
returns-in-Ok-clause-same g c = tt

pub returns-in-Ok-clause-tasks : goal.returns-in-Ok-clause-tasks
returns-in-Ok-clause-tasks g c = tt

pub returns-in-Ok-clause-local : goal.returns-in-Ok-clause-local
returns-in-Ok-clause-local g c = rw (← c.self.view_is) c.update_at_once.ensures.local

pub returns-in-Ok-clause-program : goal.returns-in-Ok-clause-program
returns-in-Ok-clause-program g c = ap (λ m. m.program) c.self.view_is

pub returns-in-Ok-clause-terms : goal.returns-in-Ok-clause-terms
returns-in-Ok-clause-terms g c = ap (λ (m : Core). m.terms) c.update_at_once.ensures.rest ∙ ap (λ m. m.core.terms) c.self.view_is

pub returns-in-Ok-clause-settings : goal.returns-in-Ok-clause-settings
returns-in-Ok-clause-settings g c = rw (← c.self.view_is) c.update_at_once.ensures.settings

pub returns-in-Err-clause-updated : goal.returns-in-Err-clause-updated
returns-in-Err-clause-updated g c = tt

pub returns-in-Err-clause-run : goal.returns-in-Err-clause-run
returns-in-Err-clause-run g c = tt

pub returns-in-Err-clause-logged : goal.returns-in-Err-clause-logged
returns-in-Err-clause-logged g c = tt

pub returns-in-Err-clause-no_memory : goal.returns-in-Err-clause-no_memory
returns-in-Err-clause-no_memory g c = rw (← c.self.view_is) c.in-Err.ensures.no_memory

pub returns-in-Err-clause-unchanged : goal.returns-in-Err-clause-unchanged
returns-in-Err-clause-unchanged g c = rw (← c.self.view_is) c.in-Err.ensures.unchanged

pub returns-in-Err-clause-same : goal.returns-in-Err-clause-same
returns-in-Err-clause-same g c = rw (← c.self.view_is) c.reserve.ensures.same

pub returns-in-Err-clause-tasks : goal.returns-in-Err-clause-tasks
returns-in-Err-clause-tasks g c = rw (← c.self.view_is) c.in-Err.ensures.tasks

pub returns-in-Err-clause-local : goal.returns-in-Err-clause-local
returns-in-Err-clause-local g c = rw (← c.self.view_is) c.update_at_once.ensures.local

pub returns-in-Err-clause-program : goal.returns-in-Err-clause-program
returns-in-Err-clause-program g c = ap (λ m. m.program) c.self.view_is

pub returns-in-Err-clause-terms : goal.returns-in-Err-clause-terms
returns-in-Err-clause-terms g c = ap (λ (m : Core). m.terms) c.update_at_once.ensures.rest ∙ ap (λ m. m.core.terms) c.self.view_is

pub returns-in-Err-clause-settings : goal.returns-in-Err-clause-settings
returns-in-Err-clause-settings g c = rw (← c.self.view_is) c.update_at_once.ensures.settings

pub returns-then-is_err-clause-order : goal.returns-then-is_err-clause-order
returns-then-is_err-clause-order g c =
    let m = c.self.inside in
    rw (← c.self.view_is) (in_order m.core m.snaps m.seen c.self.invariant)

pub returns-in-Ok-clause-order : goal.returns-in-Ok-clause-order
returns-in-Ok-clause-order g c =
    let m = c.self.inside in
    rw (← c.self.view_is) (in_order m.core m.snaps m.seen c.self.invariant)

pub returns-in-Err-clause-order : goal.returns-in-Err-clause-order
returns-in-Err-clause-order g c =
    let m = c.self.inside in
    rw (← c.self.view_is) (in_order m.core m.snaps m.seen c.self.invariant)
