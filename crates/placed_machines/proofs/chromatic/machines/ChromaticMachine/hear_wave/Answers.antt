-- A wave, for each machine of the law.
use Rattle.std.proofs.Common.{refl, sym, ◌∙◌, subst}
use Rattle.wire.specs.declared.wire_msgs.messages.Message.TheVariants.{Wave}
use Rattle.snapshot_machines.proofs.locking.AnswerLemmas.{room_made}
use Rattle.placed_machines.specs.chromatic.Prompting.{CanTellCountsNow, HasPrompted}
use Rattle.placed_machines.specs.chromatic.Machines.{IsChromaticMachineOf}
use Rattle.placed_machines.proofs.chromatic.AnswerLemmas.{heard_from, prepared_stands}
use Rattle.placed_machines.proofs.chromatic.HearLemmas.{heard_wave}
use Rattle.placed_machines.proofs.chromatic.machines.ChromaticMachine.hear_wave.Goals as goal

pub returns-clause-heard : goal.returns-clause-heard
returns-clause-heard g c =
    heard_from (IsChromaticMachineOf g.P.Program.meaning) c.args.self.now (record { machine = c.self.inside.machine; counts = c.self.inside.counts; window = c.self.inside.window; reports = c.self.inside.reports }) c.prompt.new.self (prepared_stands g.P.Program.meaning c.args.self.now (record { machine = c.self.inside.machine; counts = c.self.inside.counts; window = c.self.inside.window; reports = c.self.inside.reports }) c.prepare_answer.new.self.reports (c.self.view_is ∙ c.prepare_answer.ensures.rest) c.prepare_answer.ensures.same) (Wave c.args.wave)
    (heard_wave g.P.Program.meaning (record { machine = c.self.inside.machine; counts = c.self.inside.counts; window = c.self.inside.window; reports = c.self.inside.reports }) c.self.inside.reports refl c.args.wave (subst CanTellCountsNow (sym (c.self.view_is ∙ c.prepare_answer.ensures.rest)) (room_made c.prepare_answer.result _ (sym c.is_err.ensures.value ∙ c.if-is_err.false) c.prepare_answer.ensures.told)) c.prompt.new.self
    (subst (λ w. HasPrompted g.P.Program.meaning (record { machine = c.self.inside.machine; counts = w; window = c.self.inside.window; reports = c.self.inside.reports }) c.prompt.new.self) c.begin_answer.ensures c.prompt.ensures))
