use Rattle.std.proofs.Common.{ap, subst, ◌∙◌}
use Rattle.std.specs.Prelude.{IfOk}
use Rattle.machine_core.specs.declared.machine_parts.cores.Core.{Core}
use Rattle.machine_core.specs.machine_scopes.Granting.{HasGrantedInTurn}
use Rattle.snapshot_machines.specs.saving.Machines.{SnapMachineView}
use Rattle.snapshot_machines.proofs.saving.StayLemmas.{places_same, stays}
use Rattle.snapshot_machines.proofs.saving.machines.SnapMachine.grant_in_turn.Goals as goal

pub invariant_of-self : goal.invariant_of-self
invariant_of-self g c =
    let m = c.self.inside in
    let e = c.grant_in_turn.ensures in
    stays m.core c.grant_in_turn.new.core m.snaps m.seen c.self.invariant e.orderly
    (places_same m.core c.grant_in_turn.new.core (ap (λ (x : Core). x.numbers) e.rest) (ap (λ (x : Core). x.by_place) e.rest) c.self.invariant.places)
    (ap (λ (x : Core). x.numbers.local) e.rest) (ap (λ (x : Core). x.terms) e.rest) (ap (λ (x : Core). x.numbers.tasks.outside) e.rest)

pub returns-clause-granted : goal.returns-clause-granted
returns-clause-granted g c =
    subst (λ (m : SnapMachineView g.row.P.Denot). IfOk c.grant_in_turn.result (λ scope. HasGrantedInTurn m.core c.grant_in_turn.new.core c.args.x.0)) c.self.view_is c.grant_in_turn.ensures.granted

pub returns-clause-scope : goal.returns-clause-scope
returns-clause-scope g c = rw (← c.self.view_is) c.grant_in_turn.ensures.scope

pub returns-clause-not_now : goal.returns-clause-not_now
returns-clause-not_now g c = rw (← c.self.view_is) c.grant_in_turn.ensures.not_now

pub returns-clause-no_memory : goal.returns-clause-no_memory
returns-clause-no_memory g c = rw (← c.self.view_is) c.grant_in_turn.ensures.no_memory

pub returns-clause-numbers : goal.returns-clause-numbers
returns-clause-numbers g c = ap (λ (x : Core). x.numbers) c.grant_in_turn.ensures.rest ∙ ap (λ m. m.core.numbers) c.self.view_is

pub returns-clause-kept : goal.returns-clause-kept
returns-clause-kept g c = ap (λ m. m.kept) c.self.view_is

pub returns-clause-program : goal.returns-clause-program
returns-clause-program g c = ap (λ m. m.program) c.self.view_is

pub returns-clause-terms : goal.returns-clause-terms
returns-clause-terms g c = ap (λ (x : Core). x.terms) c.grant_in_turn.ensures.rest ∙ ap (λ m. m.core.terms) c.self.view_is

pub returns-clause-settings : goal.returns-clause-settings
returns-clause-settings g c = rw (← c.self.view_is) c.grant_in_turn.ensures.settings
