-- The update at once, and what is asked for behind it, for each machine of the law.
use Rattle.std.proofs.Common.{ap, refl, subst, sym, ◌∙◌}
use Rattle.local_graph.specs.Locals.{LocalView, place_at}
use Rattle.machine_core.proofs.machine_at_once.Numbers.{at_err}
use Rattle.placed_machines.specs.chromatic.Eager.{FindsByColour}
use Rattle.placed_machines.specs.chromatic.Machines.{ChromaticMachineView, IsChromaticMachineOf}
use Rattle.placed_machines.proofs.chromatic.AnswerLemmas.{prepared_slack, prepared_stands}
use Rattle.placed_machines.proofs.chromatic.AtOnceLemmas.{still_from, updated_from, updated_pick}
use Rattle.placed_machines.proofs.chromatic.WorkLemmas.{room_stands}
use Rattle.placed_machines.proofs.chromatic.eager.ChromaticMachineEagerMachine.update_now.Goals as goal

pub returns-in_err-prepare-clause-unchanged : goal.returns-in_err-prepare-clause-unchanged
returns-in_err-prepare-clause-unchanged g c =
    at_err c.from_residual.result (prepared_stands g.P.Program.meaning c.args.self.now c.prepare.new.self c.prepare.new.self.reports c.prepare.ensures.rest c.prepare.ensures.same)

pub update_now-requires : goal.update_now-requires
update_now-requires g c = subst (λ (y : ChromaticMachineView g.row.P.Denot). FindsByColour y c.args.v) (sym (c.self.view_is ∙ c.prepare.ensures.rest)) c.requires

pub returns-in_err-update_now-clause-unchanged : goal.returns-in_err-update_now-clause-unchanged
returns-in_err-update_now-clause-unchanged g c =
    let m = c.self.inside in
    let x : ChromaticMachineView g.row.P.Denot = record { machine = m.machine; counts = m.counts; window = m.window; reports = m.reports } in
    let e = c.update_now.ensures in
    let err = c.in_err-update_now.ensures in
    at_err c.from_residual-in_err-update_now.result
    (still_from (IsChromaticMachineOf g.P.Program.meaning) c.args.self.now x (record x { machine = c.update_now.new.self })
    (prepared_stands g.P.Program.meaning c.args.self.now x c.prepare.new.self.reports (c.self.view_is ∙ c.prepare.ensures.rest) c.prepare.ensures.same)
    (room_stands g.P.Program.meaning x c.update_now.new.self m.reports e.step err.unchanged err.same err.tasks (λ v. ap (λ (l : LocalView). place_at l v) e.local) refl))

pub returns-clause-updated : goal.returns-clause-updated
returns-clause-updated g c =
    let m = c.self.inside in
    let x : ChromaticMachineView g.row.P.Denot = record { machine = m.machine; counts = m.counts; window = m.window; reports = m.reports } in
    let core = c.update_now.ensures.order in
    let is = c.self.view_is ∙ c.prepare.ensures.rest in
    let ok = c.in_ok-update_now.ensures in
    updated_from (IsChromaticMachineOf g.P.Program.meaning) c.args.self.now x c.prompt.new.self (prepared_stands g.P.Program.meaning c.args.self.now x c.prepare.new.self.reports is c.prepare.ensures.same) c.args.v.0 c.args.ticket
    (updated_pick g.P.Program.meaning x core.orderly core.places core.outside c.update_now.new.self m.reports c.args.v c.args.ticket ok.updated ok.run ok.logged c.update_now.ensures.local c.update_now.ensures.step refl c.ask.new.self c.prompt.new.self c.ask.ensures
    (prepared_slack g.P.Program.meaning c.args.self.now x c.prepare.new.self.reports is c.in_ok-prepare.ensures.slack) c.prompt.ensures)
