-- The update, and what is asked for behind it, for each machine of the law.
use Rattle.std.proofs.Common.{refl, sym, ◌∙◌}
use Rattle.coordinator.specs.machine_api.Deeds.{Update}
use Rattle.snapshot_machines.proofs.locking.AnswerLemmas.{room_made}
use Rattle.placed_machines.specs.chromatic.Machines.{IsChromaticMachineOf}
use Rattle.placed_machines.proofs.chromatic.AnswerLemmas.{done_from, prepared_slack, prepared_stands, still_orderly, update_home}
use Rattle.placed_machines.proofs.chromatic.WorkLemmas.{can_update, updated_one}
use Rattle.placed_machines.proofs.chromatic.machines.ChromaticMachine.update_one.Goals as goal

pub returns-then-is_err-clause-no_memory : goal.returns-then-is_err-clause-no_memory
returns-then-is_err-clause-no_memory g c is = let may = c.can_update.ensures.yes c.if-not-can_update.false in rw (← c.self.view_is) (can_update g.P.Program.meaning (record { machine = c.self.inside.machine; counts = c.self.inside.counts; window = c.self.inside.window; reports = c.self.inside.reports }) c.args.scope may (update_home c.self.inside.machine c.args.scope c.can_update.ensures.order.orderly may) c.args.ticket)

pub returns-in-Ok-clause-updated : goal.returns-in-Ok-clause-updated
returns-in-Ok-clause-updated g c =
    done_from (IsChromaticMachineOf g.P.Program.meaning) c.args.self.now (record { machine = c.self-2.inside.machine; counts = c.self-2.inside.counts; window = c.self-2.inside.window; reports = c.self-2.inside.reports }) c.prompt.new.self (prepared_stands g.P.Program.meaning c.args.self.now (record { machine = c.self-2.inside.machine; counts = c.self-2.inside.counts; window = c.self-2.inside.window; reports = c.self-2.inside.reports }) c.prepare.new.self.reports (c.self-2.view_is ∙ c.prepare.ensures.rest) c.prepare.ensures.same) (Update c.args.scope c.args.ticket)
    (updated_one g.P.Program.meaning (record { machine = c.self-2.inside.machine; counts = c.self-2.inside.counts; window = c.self-2.inside.window; reports = c.self-2.inside.reports }) c.update.new.self c.self-2.inside.reports (still_orderly (record { machine = c.self.inside.machine; counts = c.self.inside.counts; window = c.self.inside.window; reports = c.self.inside.reports }) (record { machine = c.self-2.inside.machine; counts = c.self-2.inside.counts; window = c.self-2.inside.window; reports = c.self-2.inside.reports }) c.args.self.now c.prepare.new.self.reports c.self.view_is (c.self-2.view_is ∙ c.prepare.ensures.rest) c.can_update.ensures.order.orderly) c.args.scope c.args.ticket c.in-Ok.ensures.updated c.in-Ok.ensures.run c.in-Ok.ensures.logged
    c.update.ensures.local c.update.ensures.step refl c.ask.new.self c.prompt.new.self c.ask.ensures (prepared_slack g.P.Program.meaning c.args.self.now (record { machine = c.self-2.inside.machine; counts = c.self-2.inside.counts; window = c.self-2.inside.window; reports = c.self-2.inside.reports }) c.prepare.new.self.reports (c.self-2.view_is ∙ c.prepare.ensures.rest) (room_made c.prepare.result _ (sym c.is_err.ensures.value ∙ c.if-is_err.false) c.prepare.ensures.slack)) c.prompt.ensures)

pub returns-in-Err-clause-no_memory : goal.returns-in-Err-clause-no_memory
returns-in-Err-clause-no_memory g c is = let may = c.can_update.ensures.yes c.if-not-can_update.false in rw (← c.self.view_is) (can_update g.P.Program.meaning (record { machine = c.self.inside.machine; counts = c.self.inside.counts; window = c.self.inside.window; reports = c.self.inside.reports }) c.args.scope may (update_home c.self.inside.machine c.args.scope c.can_update.ensures.order.orderly may) c.args.ticket)
