use Rattle.std.proofs.Common.{ap, ◌∙◌}
use Rattle.machine_core.specs.declared.machine_parts.cores.Core.{Core}
use Rattle.snapshot_machines.proofs.saving.StayLemmas.{in_order, stays_marked}
use Rattle.snapshot_machines.proofs.saving.machines.SnapMachine.mark.Goals as goal

pub invariant_of-self : goal.invariant_of-self
invariant_of-self g c =
    let m = c.self.inside in
    let e = c.mark.ensures in
    stays_marked m.core c.mark.new.core m.snaps c.mark.new.snaps m.seen c.mark.new.seen c.self.invariant e.orderly e.places e.rows e.saved (ap (λ (x : Core). x.terms) e.rest) e.outside e.seen e.marks

pub returns-clause-plans : goal.returns-clause-plans
returns-clause-plans g c = rw (← c.self.view_is) c.mark.ensures.plans

pub returns-clause-marked : goal.returns-clause-marked
returns-clause-marked g c = rw (← c.self.view_is) c.mark.ensures.marked

pub returns-clause-saved : goal.returns-clause-saved
returns-clause-saved g c = rw (← c.self.view_is) c.mark.ensures.saved

pub returns-clause-once : goal.returns-clause-once
returns-clause-once g c = rw (← c.self.view_is) c.mark.ensures.once

pub returns-clause-not_now : goal.returns-clause-not_now
returns-clause-not_now g c = rw (← c.self.view_is) c.mark.ensures.not_now

pub returns-clause-no_memory : goal.returns-clause-no_memory
returns-clause-no_memory g c = rw (← c.self.view_is) c.mark.ensures.no_memory

pub returns-clause-unchanged : goal.returns-clause-unchanged
returns-clause-unchanged g c = rw (← c.self.view_is) c.mark.ensures.unchanged

pub returns-clause-part : goal.returns-clause-part
returns-clause-part g c = rw (← c.self.view_is) c.mark.ensures.part

pub returns-clause-same : goal.returns-clause-same
returns-clause-same g c = rw (← c.self.view_is) c.mark.ensures.same

pub returns-clause-local : goal.returns-clause-local
returns-clause-local g c = rw (← c.self.view_is) c.mark.ensures.local

pub returns-clause-settings : goal.returns-clause-settings
returns-clause-settings g c = rw (← c.self.view_is) c.mark.ensures.settings

pub returns-clause-places : goal.returns-clause-places
returns-clause-places g c = ap (λ (x : Core). x.by_place) c.mark.ensures.rest ∙ ap (λ m. m.core.by_place) c.self.view_is

pub returns-clause-terms : goal.returns-clause-terms
returns-clause-terms g c = ap (λ (x : Core). x.terms) c.mark.ensures.rest ∙ ap (λ m. m.core.terms) c.self.view_is

pub returns-clause-program : goal.returns-clause-program
returns-clause-program g c = ap (λ m. m.program) c.self.view_is

pub returns-clause-order : goal.returns-clause-order
returns-clause-order g c =
    let m = c.self.inside in
    rw (← c.self.view_is) (in_order m.core m.snaps m.seen c.self.invariant)
