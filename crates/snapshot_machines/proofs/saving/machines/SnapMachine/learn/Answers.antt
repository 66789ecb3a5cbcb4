use Rattle.std.proofs.Common.{length, sym, ap, ◌∙◌, subst}
use Rattle.machine_core.specs.declared.machine_parts.cores.Core.{Core}
use Rattle.snapshot_machines.proofs.saving.StayLemmas.{in_order, stays_learned}
use Rattle.snapshot_machines.specs.marking.Learning.{CanLearnNews}
use Rattle.snapshot_machines.specs.saving.Machines.{IsOrderly, SnapMachineView}
use Rattle.snapshot_machines.proofs.saving.machines.SnapMachine.learn.Goals as goal

pub invariant_of-self : goal.invariant_of-self
invariant_of-self g c =
    let m = c.self.inside in
    let e = c.learn.ensures in
    stays_learned m.core c.learn.new.core m.snaps c.learn.new.snaps m.seen c.learn.new.seen c.args.done.number c.self.invariant e.orderly e.places e.kept e.local (ap (λ (x : Core). x.terms) e.rest) e.outside e.seen e.marks

pub returns-clause-learned : goal.returns-clause-learned
returns-clause-learned g c = rw (← c.self.view_is) c.learn.ensures.learned

pub returns-clause-kept : goal.returns-clause-kept
returns-clause-kept g c = rw (← c.self.view_is) c.learn.ensures.kept

pub returns-clause-tasks : goal.returns-clause-tasks
returns-clause-tasks g c = rw (← c.self.view_is) c.learn.ensures.tasks

pub returns-clause-local : goal.returns-clause-local
returns-clause-local g c = rw (← c.self.view_is) c.learn.ensures.local

pub returns-clause-settings : goal.returns-clause-settings
returns-clause-settings g c = rw (← c.self.view_is) c.learn.ensures.settings

pub returns-clause-places : goal.returns-clause-places
returns-clause-places g c = ap (λ (x : Core). x.by_place) c.learn.ensures.rest ∙ ap (λ m. m.core.by_place) c.self.view_is

pub returns-clause-terms : goal.returns-clause-terms
returns-clause-terms g c = ap (λ (x : Core). x.terms) c.learn.ensures.rest ∙ ap (λ m. m.core.terms) c.self.view_is

pub returns-clause-program : goal.returns-clause-program
returns-clause-program g c = ap (λ m. m.program) c.self.view_is

pub returns-clause-order : goal.returns-clause-order
returns-clause-order g c =
    let m = c.self.inside in
    rw (← c.self.view_is) (in_order m.core m.snaps m.seen c.self.invariant)

pub returns-clause-many : goal.returns-clause-many
returns-clause-many g c =
    let e = c.learn.ensures in
    sym e.places.vertices.many ∙ ap (λ (x : Core). length x.by_place.items) e.rest ∙ c.self.invariant.places.vertices.many ∙ ap (λ m. length m.core.numbers.tasks.task) c.self.view_is

pub learn-requires-clause-can : goal.learn-requires-clause-can
learn-requires-clause-can g c = subst (λ (x : SnapMachineView g.row.P.Denot). IsOrderly x.core → CanLearnNews x.core c.args.done) (sym c.self.view_is) c.requires c.self.invariant.orderly
