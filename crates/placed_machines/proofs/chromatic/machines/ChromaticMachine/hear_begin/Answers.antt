-- That a snapshot begins, for each machine of the law.
use Rattle.std.proofs.Common.{refl, sym, ◌∙◌}
use Rattle.wire.specs.declared.wire_msgs.messages.Message.TheVariants.{Begin}
use Rattle.snapshot_machines.proofs.locking.AnswerLemmas.{room_made}
use Rattle.placed_machines.specs.chromatic.Machines.{IsChromaticMachineOf}
use Rattle.placed_machines.proofs.chromatic.AnswerLemmas.{heard_from, prepared_slack, prepared_stands}
use Rattle.placed_machines.proofs.chromatic.HearLemmas.{heard_begin}
use Rattle.placed_machines.proofs.chromatic.machines.ChromaticMachine.hear_begin.Goals as goal

pub returns-clause-heard : goal.returns-clause-heard
returns-clause-heard g c =
    heard_from (IsChromaticMachineOf g.P.Program.meaning) c.args.self.now (record { machine = c.self.inside.machine; counts = c.self.inside.counts; window = c.self.inside.window; reports = c.self.inside.reports }) c.prompt.new.self (prepared_stands g.P.Program.meaning c.args.self.now (record { machine = c.self.inside.machine; counts = c.self.inside.counts; window = c.self.inside.window; reports = c.self.inside.reports }) c.prepare.new.self.reports (c.self.view_is ∙ c.prepare.ensures.rest) c.prepare.ensures.same) (Begin c.args.number)
    (heard_begin g.P.Program.meaning (record { machine = c.self.inside.machine; counts = c.self.inside.counts; window = c.self.inside.window; reports = c.self.inside.reports }) c.begin.new.self c.self.inside.reports refl c.args.number c.begin.ensures.begun c.begin.ensures.kept c.begin.ensures.rest c.begin.ensures.step c.prompt.new.self (prepared_slack g.P.Program.meaning c.args.self.now (record { machine = c.self.inside.machine; counts = c.self.inside.counts; window = c.self.inside.window; reports = c.self.inside.reports }) c.prepare.new.self.reports (c.self.view_is ∙ c.prepare.ensures.rest) (room_made c.prepare.result _ (sym c.is_err.ensures.value ∙ c.if-is_err.false) c.prepare.ensures.slack)) c.prompt.ensures)
