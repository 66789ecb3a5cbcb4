-- Word of an update, for each machine of the law.
use Rattle.std.proofs.Common.{refl, sym, ◌∙◌, subst}
use Rattle.wire.specs.declared.wire_msgs.messages.Message.TheVariants.{Done}
use Rattle.snapshot_machines.proofs.locking.AnswerLemmas.{room_made}
use Rattle.snapshot_machines.specs.chromatic.Snapshots.{CanHearNews}
use Rattle.placed_machines.specs.chromatic.Machines.{IsChromaticMachineOf}
use Rattle.placed_machines.proofs.chromatic.AnswerLemmas.{prepared_slack, prepared_stands, received_from}
use Rattle.placed_machines.proofs.chromatic.NewsLemmas.{can_learn, received_done}
use Rattle.placed_machines.proofs.chromatic.machines.ChromaticMachine.receive_done.Goals as goal

pub learn-requires : goal.learn-requires
learn-requires g c = subst (λ v. CanHearNews v.machine.core c.args.done) (sym (c.self.view_is ∙ c.prepare.ensures.rest)) (can_learn g.P.Program.meaning c.args.self.now c.args.from.0 c.args.done c.requires)

pub returns-clause-received : goal.returns-clause-received
returns-clause-received g c =
    received_from (IsChromaticMachineOf g.P.Program.meaning) c.args.self.now (record { machine = c.self.inside.machine; counts = c.self.inside.counts; window = c.self.inside.window; reports = c.self.inside.reports }) c.prompt.new.self (prepared_stands g.P.Program.meaning c.args.self.now (record { machine = c.self.inside.machine; counts = c.self.inside.counts; window = c.self.inside.window; reports = c.self.inside.reports }) c.prepare.new.self.reports (c.self.view_is ∙ c.prepare.ensures.rest) c.prepare.ensures.same) c.args.from.0 (Done c.args.done)
    (received_done g.P.Program.meaning (record { machine = c.self.inside.machine; counts = c.self.inside.counts; window = c.self.inside.window; reports = c.self.inside.reports }) c.learn.new.self c.self.inside.reports refl c.args.from.0 c.args.done (subst (λ v. CanHearNews v.machine.core c.args.done) (sym (c.self.view_is ∙ c.prepare.ensures.rest)) (can_learn g.P.Program.meaning c.args.self.now c.args.from.0 c.args.done c.requires)) c.learn.ensures.learned
    c.learn.ensures.kept c.learn.ensures.tasks c.learn.ensures.local c.learn.ensures.step c.add_received.new.self c.add_received.ensures c.prompt.new.self (prepared_slack g.P.Program.meaning c.args.self.now (record { machine = c.self.inside.machine; counts = c.self.inside.counts; window = c.self.inside.window; reports = c.self.inside.reports }) c.prepare.new.self.reports (c.self.view_is ∙ c.prepare.ensures.rest) (room_made c.prepare.result _ (sym c.is_err.ensures.value ∙ c.if-is_err.false) c.prepare.ensures.slack)) c.prompt.ensures)
