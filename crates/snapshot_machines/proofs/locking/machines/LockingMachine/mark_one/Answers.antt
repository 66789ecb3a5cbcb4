-- The snapshot update, for each machine of the law.
use Rattle.std.proofs.Common.{ap, refl}
use Rattle.local_graph.specs.Locals.{LocalView, place_at}
use Rattle.machine_core.specs.declared.machine_parts.cores.Core.{Core}
use Rattle.snapshot_machines.proofs.locking.AnswerLemmas.{mark_home, on_err, on_ok}
use Rattle.snapshot_machines.proofs.locking.StandLemmas.{roomier_stands}
use Rattle.snapshot_machines.proofs.locking.MarkLemmas.{can_mark, can_not_mark, marked_one}
use Rattle.snapshot_machines.proofs.locking.machines.LockingMachine.mark_one.Goals as goal

pub returns-clause-marked : goal.returns-clause-marked
returns-clause-marked g c = rw (← c.self.view_is) (on_ok c.mark.result _ _ _ _ c.mark.ensures.marked c.mark.ensures.once c.mark.ensures.plans (λ has once plan. marked_one g.P.Program.meaning (record { machine = c.self.inside.machine; counts = c.self.inside.counts; window = c.self.inside.window; reports = c.self.inside.reports }) c.mark.new.self c.mark.ensures.order.orderly c.args.scope has c.mark.ensures.saved once plan c.mark.ensures.local c.mark.ensures.program c.mark.ensures.settings))

pub returns-clause-not_now : goal.returns-clause-not_now
returns-clause-not_now g c is = rw (← c.self.view_is) (can_not_mark g.P.Program.meaning (record { machine = c.self.inside.machine; counts = c.self.inside.counts; window = c.self.inside.window; reports = c.self.inside.reports }) c.args.scope (c.mark.ensures.not_now is))

pub returns-clause-no_memory : goal.returns-clause-no_memory
returns-clause-no_memory g c is = rw (← c.self.view_is) (can_mark g.P.Program.meaning (record { machine = c.self.inside.machine; counts = c.self.inside.counts; window = c.self.inside.window; reports = c.self.inside.reports }) c.args.scope (c.mark.ensures.no_memory is) (mark_home c.self.inside.machine.core c.args.scope c.mark.ensures.order.orderly (c.mark.ensures.no_memory is)))

pub returns-clause-unchanged : goal.returns-clause-unchanged
returns-clause-unchanged g c = rw (← c.self.view_is) (on_err c.mark.result _ _ _ _ c.mark.ensures.unchanged c.mark.ensures.part c.mark.ensures.same (λ made part same. roomier_stands g.P.Program.meaning (record { machine = c.self.inside.machine; counts = c.self.inside.counts; window = c.self.inside.window; reports = c.self.inside.reports }) c.mark.new.self c.self.inside.reports refl part same (ap (λ (m : Core). m.numbers.tasks) made.rest) (λ v. ap (λ (l : LocalView). place_at l v) c.mark.ensures.local) (ap (λ (l : LocalView). l.me) c.mark.ensures.local) c.mark.ensures.program c.mark.ensures.settings))
