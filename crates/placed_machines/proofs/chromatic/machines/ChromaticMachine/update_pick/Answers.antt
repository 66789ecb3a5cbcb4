-- The update at once, and what is asked for behind it, for each machine of the law.
use Rattle.std.proofs.Common.{refl, sym, ap, ◌∙◌}
use Rattle.local_graph.specs.Locals.{LocalView, place_at}
use Rattle.snapshot_machines.proofs.locking.AnswerLemmas.{error_is, room_made}
use Rattle.placed_machines.specs.chromatic.Machines.{IsChromaticMachineOf}
use Rattle.placed_machines.proofs.chromatic.AnswerLemmas.{prepared_slack, prepared_stands}
use Rattle.placed_machines.proofs.chromatic.AtOnceLemmas.{can_at_once, can_from, can_not_at_once, can_not_from, still_from, updated_from, updated_pick}
use Rattle.placed_machines.proofs.chromatic.WorkLemmas.{room_stands}
use Rattle.placed_machines.proofs.chromatic.machines.ChromaticMachine.update_pick.Goals as goal

pub returns-then-is_err-clause-not_now : goal.returns-then-is_err-clause-not_now
returns-then-is_err-clause-not_now g c = λ is. can_not_from (IsChromaticMachineOf g.P.Program.meaning) c.args.self.now (record { machine = c.self.inside.machine; counts = c.self.inside.counts; window = c.self.inside.window; reports = c.self.inside.reports }) (record { machine = c.self.inside.machine; counts = c.self.inside.counts; window = c.self.inside.window; reports = c.self.inside.reports }) (prepared_stands g.P.Program.meaning c.args.self.now (record { machine = c.self.inside.machine; counts = c.self.inside.counts; window = c.self.inside.window; reports = c.self.inside.reports }) c.prepare-prepared.new.self.reports (c.self.view_is ∙ c.prepare-prepared.ensures.rest) c.prepare-prepared.ensures.same) (can_not_at_once g.P.Program.meaning (record { machine = c.self.inside.machine; counts = c.self.inside.counts; window = c.self.inside.window; reports = c.self.inside.reports }) c.refusal_at_once.ensures.order.orderly c.refusal_at_once.ensures.order.places c.refusal_at_once.ensures.order.outside (c.refusal_at_once.ensures.not_now (error_is c.refusal_at_once.result _ is)))

pub returns-then-is_err-clause-no_memory : goal.returns-then-is_err-clause-no_memory
returns-then-is_err-clause-no_memory g c = λ is. can_from (IsChromaticMachineOf g.P.Program.meaning) c.args.self.now (record { machine = c.self.inside.machine; counts = c.self.inside.counts; window = c.self.inside.window; reports = c.self.inside.reports }) (record { machine = c.self.inside.machine; counts = c.self.inside.counts; window = c.self.inside.window; reports = c.self.inside.reports }) (prepared_stands g.P.Program.meaning c.args.self.now (record { machine = c.self.inside.machine; counts = c.self.inside.counts; window = c.self.inside.window; reports = c.self.inside.reports }) c.prepare-prepared.new.self.reports (c.self.view_is ∙ c.prepare-prepared.ensures.rest) c.prepare-prepared.ensures.same) (can_at_once g.P.Program.meaning (record { machine = c.self.inside.machine; counts = c.self.inside.counts; window = c.self.inside.window; reports = c.self.inside.reports }) c.refusal_at_once.ensures.order.orderly c.refusal_at_once.ensures.order.places c.refusal_at_once.ensures.order.outside (c.refusal_at_once.ensures.no_memory (error_is c.refusal_at_once.result _ is)))

pub returns-then-is_err-clause-unchanged : goal.returns-then-is_err-clause-unchanged
returns-then-is_err-clause-unchanged g c = prepared_stands g.P.Program.meaning c.args.self.now c.prepare-prepared.new.self c.prepare-prepared.new.self.reports c.prepare-prepared.ensures.rest c.prepare-prepared.ensures.same

pub returns-in-Err-clause-not_now : goal.returns-in-Err-clause-not_now
returns-in-Err-clause-not_now g c = λ is. can_not_from (IsChromaticMachineOf g.P.Program.meaning) c.args.self.now (record { machine = c.self.inside.machine; counts = c.self.inside.counts; window = c.self.inside.window; reports = c.self.inside.reports }) (record { machine = c.self.inside.machine; counts = c.self.inside.counts; window = c.self.inside.window; reports = c.self.inside.reports }) (prepared_stands g.P.Program.meaning c.args.self.now (record { machine = c.self.inside.machine; counts = c.self.inside.counts; window = c.self.inside.window; reports = c.self.inside.reports }) c.prepare-prepared.new.self.reports (c.self.view_is ∙ c.prepare-prepared.ensures.rest) c.prepare-prepared.ensures.same) (can_not_at_once g.P.Program.meaning (record { machine = c.self.inside.machine; counts = c.self.inside.counts; window = c.self.inside.window; reports = c.self.inside.reports }) c.update_at_once.ensures.order.orderly c.update_at_once.ensures.order.places c.update_at_once.ensures.order.outside (c.in-Err.ensures.not_now is))

pub returns-in-Err-clause-no_memory : goal.returns-in-Err-clause-no_memory
returns-in-Err-clause-no_memory g c = λ is. can_from (IsChromaticMachineOf g.P.Program.meaning) c.args.self.now (record { machine = c.self.inside.machine; counts = c.self.inside.counts; window = c.self.inside.window; reports = c.self.inside.reports }) (record { machine = c.self.inside.machine; counts = c.self.inside.counts; window = c.self.inside.window; reports = c.self.inside.reports }) (prepared_stands g.P.Program.meaning c.args.self.now (record { machine = c.self.inside.machine; counts = c.self.inside.counts; window = c.self.inside.window; reports = c.self.inside.reports }) c.prepare-prepared.new.self.reports (c.self.view_is ∙ c.prepare-prepared.ensures.rest) c.prepare-prepared.ensures.same) (can_at_once g.P.Program.meaning (record { machine = c.self.inside.machine; counts = c.self.inside.counts; window = c.self.inside.window; reports = c.self.inside.reports }) c.update_at_once.ensures.order.orderly c.update_at_once.ensures.order.places c.update_at_once.ensures.order.outside (c.in-Err.ensures.no_memory is))

pub returns-in-Err-clause-unchanged : goal.returns-in-Err-clause-unchanged
returns-in-Err-clause-unchanged g c = still_from (IsChromaticMachineOf g.P.Program.meaning) c.args.self.now (record { machine = c.self.inside.machine; counts = c.self.inside.counts; window = c.self.inside.window; reports = c.self.inside.reports }) (record { machine = c.update_at_once.new.self; counts = c.self.inside.counts; window = c.self.inside.window; reports = c.self.inside.reports }) (prepared_stands g.P.Program.meaning c.args.self.now (record { machine = c.self.inside.machine; counts = c.self.inside.counts; window = c.self.inside.window; reports = c.self.inside.reports }) c.prepare-prepared.new.self.reports (c.self.view_is ∙ c.prepare-prepared.ensures.rest) c.prepare-prepared.ensures.same)
    (room_stands g.P.Program.meaning (record { machine = c.self.inside.machine; counts = c.self.inside.counts; window = c.self.inside.window; reports = c.self.inside.reports }) c.update_at_once.new.self c.self.inside.reports c.update_at_once.ensures.step c.in-Err.ensures.unchanged c.in-Err.ensures.same c.in-Err.ensures.tasks
    (λ v. ap (λ (l : LocalView). place_at l v) c.update_at_once.ensures.local) refl)

pub returns-in-Ok-clause-updated : goal.returns-in-Ok-clause-updated
returns-in-Ok-clause-updated g c =
    updated_from (IsChromaticMachineOf g.P.Program.meaning) c.args.self.now (record { machine = c.self.inside.machine; counts = c.self.inside.counts; window = c.self.inside.window; reports = c.self.inside.reports }) c.prompt.new.self (prepared_stands g.P.Program.meaning c.args.self.now (record { machine = c.self.inside.machine; counts = c.self.inside.counts; window = c.self.inside.window; reports = c.self.inside.reports }) c.prepare-prepared.new.self.reports (c.self.view_is ∙ c.prepare-prepared.ensures.rest) c.prepare-prepared.ensures.same) c.in-Ok.vertex.0 c.args.ticket
    (updated_pick g.P.Program.meaning (record { machine = c.self.inside.machine; counts = c.self.inside.counts; window = c.self.inside.window; reports = c.self.inside.reports }) c.update_at_once.ensures.order.orderly c.update_at_once.ensures.order.places c.update_at_once.ensures.order.outside c.update_at_once.new.self c.self.inside.reports c.in-Ok.vertex c.args.ticket c.in-Ok.ensures.updated c.in-Ok.ensures.run c.in-Ok.ensures.logged c.update_at_once.ensures.local c.update_at_once.ensures.step refl
    c.ask.new.self c.prompt.new.self c.ask.ensures (prepared_slack g.P.Program.meaning c.args.self.now (record { machine = c.self.inside.machine; counts = c.self.inside.counts; window = c.self.inside.window; reports = c.self.inside.reports }) c.prepare-prepared.new.self.reports (c.self.view_is ∙ c.prepare-prepared.ensures.rest) (room_made c.prepare-prepared.result _ (sym c.is_err.ensures.value ∙ c.if-is_err.false) c.prepare-prepared.ensures.slack)) c.prompt.ensures)
