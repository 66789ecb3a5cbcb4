use Rattle.std.proofs.Common.{ap, ◌∙◌, sym, subst}
use Rattle.machine_core.specs.declared.machine_parts.cores.Core.{Core}
use Rattle.snapshot_machines.proofs.saving.StayLemmas.{places_same, stays}
use Rattle.machine_core.specs.machine_scopes.Asking.{AreMachinesFor, IsNewAt}
use Rattle.snapshot_machines.specs.saving.Machines.{IsOrderly, SnapMachineView}
use Rattle.snapshot_machines.proofs.saving.machines.SnapMachine.receive_ask.Goals as goal

pub invariant_of-self : goal.invariant_of-self
invariant_of-self g c =
    let m = c.self.inside in
    let e = c.receive_ask.ensures in
    stays m.core c.receive_ask.new.core m.snaps m.seen c.self.invariant e.orderly
    (places_same m.core c.receive_ask.new.core (ap (λ (x : Core). x.numbers) e.rest) (ap (λ (x : Core). x.by_place) e.rest) c.self.invariant.places)
    (ap (λ (x : Core). x.numbers.local) e.rest) (ap (λ (x : Core). x.terms) e.rest) (ap (λ (x : Core). x.numbers.tasks.outside) e.rest)

pub returns-clause-place : goal.returns-clause-place
returns-clause-place g c = rw (← c.self.view_is) c.receive_ask.ensures.place

pub returns-clause-received : goal.returns-clause-received
returns-clause-received g c = rw (← c.self.view_is) c.receive_ask.ensures.received

pub returns-clause-unchanged : goal.returns-clause-unchanged
returns-clause-unchanged g c = rw (← c.self.view_is) c.receive_ask.ensures.unchanged

pub returns-clause-settings : goal.returns-clause-settings
returns-clause-settings g c = rw (← c.self.view_is) c.receive_ask.ensures.settings

pub returns-clause-numbers : goal.returns-clause-numbers
returns-clause-numbers g c = ap (λ (x : Core). x.numbers) c.receive_ask.ensures.rest ∙ ap (λ m. m.core.numbers) c.self.view_is

pub returns-clause-terms : goal.returns-clause-terms
returns-clause-terms g c = ap (λ (x : Core). x.terms) c.receive_ask.ensures.rest ∙ ap (λ m. m.core.terms) c.self.view_is

pub returns-clause-kept : goal.returns-clause-kept
returns-clause-kept g c = ap (λ m. m.kept) c.self.view_is

pub returns-clause-program : goal.returns-clause-program
returns-clause-program g c = ap (λ m. m.program) c.self.view_is

pub receive_ask-requires-clause-is_new : goal.receive_ask-requires-clause-is_new
receive_ask-requires-clause-is_new g c = subst (λ (x : SnapMachineView g.row.P.Denot). IsOrderly x.core → IsNewAt x.core c.args.scope c.args.centre) (sym c.self.view_is) c.requires.is_new c.self.invariant.orderly

pub receive_ask-requires-clause-machines : goal.receive_ask-requires-clause-machines
receive_ask-requires-clause-machines g c = subst (λ (x : SnapMachineView g.row.P.Denot). IsOrderly x.core → AreMachinesFor x.core c.args.scope c.args.rest.items) (sym c.self.view_is) c.requires.machines c.self.invariant.orderly
