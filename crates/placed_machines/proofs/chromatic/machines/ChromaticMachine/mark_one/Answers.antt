-- The snapshot update, for each machine of the law.
use Rattle.std.proofs.Common.{refl, sym, ◌∙◌}
use Rattle.coordinator.specs.machine_api.Deeds.{Mark}
use Rattle.snapshot_machines.proofs.locking.AnswerLemmas.{room_made}
use Rattle.placed_machines.specs.chromatic.Machines.{IsChromaticMachineOf}
use Rattle.placed_machines.proofs.chromatic.AnswerLemmas.{done_from, mark_home, prepared_slack, prepared_stands, still_orderly}
use Rattle.placed_machines.proofs.chromatic.MarkLemmas.{can_mark, marked_one}
use Rattle.placed_machines.proofs.chromatic.machines.ChromaticMachine.mark_one.Goals as goal

pub returns-then-is_err-clause-no_memory : goal.returns-then-is_err-clause-no_memory
returns-then-is_err-clause-no_memory g c is = let may = c.can_mark.ensures.yes c.if-not-can_mark.false in rw (← c.self.view_is) (can_mark g.P.Program.meaning (record { machine = c.self.inside.machine; counts = c.self.inside.counts; window = c.self.inside.window; reports = c.self.inside.reports }) c.args.scope may (mark_home c.self.inside.machine c.args.scope c.can_mark.ensures.order.orderly may))

pub returns-in-Ok-clause-marked : goal.returns-in-Ok-clause-marked
returns-in-Ok-clause-marked g c =
    done_from (IsChromaticMachineOf g.P.Program.meaning) c.args.self.now (record { machine = c.self-2.inside.machine; counts = c.self-2.inside.counts; window = c.self-2.inside.window; reports = c.self-2.inside.reports }) c.prompt.new.self (prepared_stands g.P.Program.meaning c.args.self.now (record { machine = c.self-2.inside.machine; counts = c.self-2.inside.counts; window = c.self-2.inside.window; reports = c.self-2.inside.reports }) c.prepare.new.self.reports (c.self-2.view_is ∙ c.prepare.ensures.rest) c.prepare.ensures.same) (Mark c.args.scope)
    (marked_one g.P.Program.meaning (record { machine = c.self-2.inside.machine; counts = c.self-2.inside.counts; window = c.self-2.inside.window; reports = c.self-2.inside.reports }) c.mark.new.self c.self-2.inside.reports (still_orderly (record { machine = c.self.inside.machine; counts = c.self.inside.counts; window = c.self.inside.window; reports = c.self.inside.reports }) (record { machine = c.self-2.inside.machine; counts = c.self-2.inside.counts; window = c.self-2.inside.window; reports = c.self-2.inside.reports }) c.args.self.now c.prepare.new.self.reports c.self.view_is (c.self-2.view_is ∙ c.prepare.ensures.rest) c.can_mark.ensures.order.orderly) c.args.scope c.in-Ok.ensures.marked c.mark.ensures.saved c.in-Ok.ensures.once c.in-Ok.ensures.plans
    c.mark.ensures.local c.mark.ensures.step refl c.prompt.new.self (prepared_slack g.P.Program.meaning c.args.self.now (record { machine = c.self-2.inside.machine; counts = c.self-2.inside.counts; window = c.self-2.inside.window; reports = c.self-2.inside.reports }) c.prepare.new.self.reports (c.self-2.view_is ∙ c.prepare.ensures.rest) (room_made c.prepare.result _ (sym c.is_err.ensures.value ∙ c.if-is_err.false) c.prepare.ensures.slack)) c.prompt.ensures)

pub returns-in-Err-clause-no_memory : goal.returns-in-Err-clause-no_memory
returns-in-Err-clause-no_memory g c is = let may = c.can_mark.ensures.yes c.if-not-can_mark.false in rw (← c.self.view_is) (can_mark g.P.Program.meaning (record { machine = c.self.inside.machine; counts = c.self.inside.counts; window = c.self.inside.window; reports = c.self.inside.reports }) c.args.scope may (mark_home c.self.inside.machine c.args.scope c.can_mark.ensures.order.orderly may))
