-- The section, for each machine of the law.
use Rattle.std.proofs.Common.{◌++◌, ◌∷◌, [], sym, ap, ◌∙◌, subst}
use Rattle.wire.specs.wire_msgs.Views as wire
use Rattle.coordinator.specs.machine_api.Deeds.{Section}
use Rattle.coordinator.specs.machine_api.Promises.{StandsStill}
use Rattle.snapshot_machines.specs.locking.Reports.{ReportsView}
use Rattle.snapshot_machines.proofs.locking.AnswerLemmas.{room_made}
use Rattle.placed_machines.specs.chromatic.Machines.{IsChromaticMachineOf}
use Rattle.placed_machines.proofs.chromatic.AnswerLemmas.{done_from, prepared_slack, prepared_stands}
use Rattle.placed_machines.proofs.chromatic.MarkLemmas.{can_not_send, can_send, section_one}
use Rattle.placed_machines.proofs.chromatic.machines.ChromaticMachine.put_section.Goals as goal

pub returns-then-not-has_section-clause-not_now : goal.returns-then-not-has_section-clause-not_now
returns-then-not-has_section-clause-not_now g c is = rw (← c.self.view_is) (can_not_send g.P.Program.meaning (record { machine = c.self.inside.machine; counts = c.self.inside.counts; window = c.self.inside.window; reports = c.self.inside.reports }) (c.has_section.ensures.no c.if-not-has_section.true))

pub returns-then-is_err-clause-no_memory : goal.returns-then-is_err-clause-no_memory
returns-then-is_err-clause-no_memory g c is = rw (← c.self.view_is) (can_send g.P.Program.meaning (record { machine = c.self.inside.machine; counts = c.self.inside.counts; window = c.self.inside.window; reports = c.self.inside.reports }) (c.has_section.ensures.yes c.if-not-has_section.false))

pub returns-in-Ok-clause-sent : goal.returns-in-Ok-clause-sent
returns-in-Ok-clause-sent g c =
    let seen = (λ i. record { machine = c.has_section.ensures.same i; counts = c.self.inside.counts; window = c.self.inside.window; reports = c.self.inside.reports }) ∙ c.self.view_is in
    done_from (IsChromaticMachineOf g.P.Program.meaning) c.args.self.now (record { machine = c.self-2.inside.machine; counts = c.self-2.inside.counts; window = c.self-2.inside.window; reports = c.self-2.inside.reports }) c.prompt.new.self
    (subst (λ v. StandsStill (IsChromaticMachineOf g.P.Program.meaning) v (record { machine = c.self-2.inside.machine; counts = c.self-2.inside.counts; window = c.self-2.inside.window; reports = c.self-2.inside.reports })) seen (prepared_stands g.P.Program.meaning (record { machine = c.has_section.new.self; counts = c.self.inside.counts; window = c.self.inside.window; reports = c.self.inside.reports }) (record { machine = c.self-2.inside.machine; counts = c.self-2.inside.counts; window = c.self-2.inside.window; reports = c.self-2.inside.reports }) c.prepare.new.self.reports (c.self-2.view_is ∙ c.prepare.ensures.rest) c.prepare.ensures.same)) Section
    (section_one g.P.Program.meaning (record { machine = c.self-2.inside.machine; counts = c.self-2.inside.counts; window = c.self-2.inside.window; reports = c.self-2.inside.reports }) c.section.new.self c.put.new.self c.in-Ok.ensures.may c.in-Ok.ensures.sent c.section.ensures.rest
    (ap (λ (r : ReportsView). r.messages) c.put.ensures ∙ ap (λ v. c.self-2.inside.reports.messages ++ wire.Section v ∷ []) c.in-Ok.ensures.told) c.prompt.new.self
    (prepared_slack g.P.Program.meaning (record { machine = c.has_section.new.self; counts = c.self.inside.counts; window = c.self.inside.window; reports = c.self.inside.reports }) (record { machine = c.self-2.inside.machine; counts = c.self-2.inside.counts; window = c.self-2.inside.window; reports = c.self-2.inside.reports }) c.prepare.new.self.reports (c.self-2.view_is ∙ c.prepare.ensures.rest) (room_made c.prepare.result _ (sym c.is_err.ensures.value ∙ c.if-is_err.false) c.prepare.ensures.slack)) c.prompt.ensures)

pub returns-in-Err-clause-no_memory : goal.returns-in-Err-clause-no_memory
returns-in-Err-clause-no_memory g c is = rw (← c.self.view_is) (can_send g.P.Program.meaning (record { machine = c.self.inside.machine; counts = c.self.inside.counts; window = c.self.inside.window; reports = c.self.inside.reports }) (c.has_section.ensures.yes c.if-not-has_section.false))
