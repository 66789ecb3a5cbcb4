-- That a snapshot is acknowledged, for each machine of the law.
use Rattle.std.proofs.Common.{refl, sym, ◌∙◌}
use Rattle.wire.specs.declared.wire_msgs.messages.Message.TheVariants.{Committed}
use Rattle.snapshot_machines.proofs.locking.AnswerLemmas.{room_made}
use Rattle.placed_machines.specs.chromatic.Machines.{IsChromaticMachineOf}
use Rattle.placed_machines.proofs.chromatic.AnswerLemmas.{heard_from, prepared_slack, prepared_stands}
use Rattle.placed_machines.proofs.chromatic.HearLemmas.{heard_committed}
use Rattle.placed_machines.proofs.chromatic.machines.ChromaticMachine.hear_committed.Goals as goal

pub returns-clause-heard : goal.returns-clause-heard
returns-clause-heard g c =
    heard_from (IsChromaticMachineOf g.P.Program.meaning) c.args.self.now (record { machine = c.self.inside.machine; counts = c.self.inside.counts; window = c.self.inside.window; reports = c.self.inside.reports }) c.prompt.new.self (prepared_stands g.P.Program.meaning c.args.self.now (record { machine = c.self.inside.machine; counts = c.self.inside.counts; window = c.self.inside.window; reports = c.self.inside.reports }) c.prepare.new.self.reports (c.self.view_is ∙ c.prepare.ensures.rest) c.prepare.ensures.same) (Committed c.args.number)
    (heard_committed g.P.Program.meaning (record { machine = c.self.inside.machine; counts = c.self.inside.counts; window = c.self.inside.window; reports = c.self.inside.reports }) c.committed.new.self c.self.inside.reports refl c.args.number c.committed.ensures.kept c.committed.ensures.fewer c.committed.ensures.part c.committed.ensures.step c.ask.new.self c.ask.ensures c.prompt.new.self (prepared_slack g.P.Program.meaning c.args.self.now (record { machine = c.self.inside.machine; counts = c.self.inside.counts; window = c.self.inside.window; reports = c.self.inside.reports }) c.prepare.new.self.reports (c.self.view_is ∙ c.prepare.ensures.rest) (room_made c.prepare.result _ (sym c.is_err.ensures.value ∙ c.if-is_err.false) c.prepare.ensures.slack)) c.prompt.ensures)
