use Rattle.std.proofs.Common.{ap, ◌∙◌}
use Rattle.snapshot_machines.proofs.saving.StayLemmas.{in_order, stays}
use Rattle.snapshot_machines.proofs.saving.machines.SnapMachine.admit.Goals as goal

pub invariant_of-self : goal.invariant_of-self
invariant_of-self g c =
    let m = c.self.inside in
    let e = c.admit.ensures in
    stays m.core c.admit.new.core m.snaps m.seen c.self.invariant e.orderly e.places e.local e.terms e.outside

pub returns-clause-scope : goal.returns-clause-scope
returns-clause-scope g c = rw (← c.self.view_is) c.admit.ensures.scope

pub returns-clause-admitted : goal.returns-clause-admitted
returns-clause-admitted g c = rw (← c.self.view_is) c.admit.ensures.admitted

pub returns-clause-not_now : goal.returns-clause-not_now
returns-clause-not_now g c = rw (← c.self.view_is) c.admit.ensures.not_now

pub returns-clause-no_memory : goal.returns-clause-no_memory
returns-clause-no_memory g c = rw (← c.self.view_is) c.admit.ensures.no_memory

pub returns-clause-unchanged : goal.returns-clause-unchanged
returns-clause-unchanged g c = rw (← c.self.view_is) c.admit.ensures.unchanged

pub returns-clause-plans : goal.returns-clause-plans
returns-clause-plans g c = rw (← c.self.view_is) c.admit.ensures.plans

pub returns-clause-local : goal.returns-clause-local
returns-clause-local g c = c.admit.ensures.local ∙ ap (λ m. m.core.numbers.local) c.self.view_is

pub returns-clause-kept : goal.returns-clause-kept
returns-clause-kept g c = ap (λ m. m.kept) c.self.view_is

pub returns-clause-program : goal.returns-clause-program
returns-clause-program g c = ap (λ m. m.program) c.self.view_is

pub returns-clause-terms : goal.returns-clause-terms
returns-clause-terms g c = c.admit.ensures.terms ∙ ap (λ m. m.core.terms) c.self.view_is

pub returns-clause-settings : goal.returns-clause-settings
returns-clause-settings g c = rw (← c.self.view_is) c.admit.ensures.settings

pub returns-clause-order : goal.returns-clause-order
returns-clause-order g c =
    let m = c.self.inside in
    rw (← c.self.view_is) (in_order m.core m.snaps m.seen c.self.invariant)
