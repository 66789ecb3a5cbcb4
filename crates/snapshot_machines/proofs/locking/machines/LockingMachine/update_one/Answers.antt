-- The update, and what is asked for behind it, for each machine of the law.
use Rattle.std.proofs.Common.{sym, ap, ◌∙◌}
use Rattle.local_graph.specs.Locals.{LocalView, place_at}
use Rattle.snapshot_machines.proofs.locking.AnswerLemmas.{room_made, update_home}
use Rattle.snapshot_machines.proofs.locking.StandLemmas.{reports_stand, roomier_stands}
use Rattle.snapshot_machines.proofs.locking.WorkLemmas.{can_not_update, can_update, updated_one}
use Rattle.snapshot_machines.proofs.locking.machines.LockingMachine.update_one.Goals as goal

pub returns-then-not-can_update-clause-not_now : goal.returns-then-not-can_update-clause-not_now
returns-then-not-can_update-clause-not_now g c is = rw (← c.self.view_is) (can_not_update g.P.Program.meaning (record { machine = c.self.inside.machine; counts = c.self.inside.counts; window = c.self.inside.window; reports = c.self.inside.reports }) c.args.scope (c.can_update.ensures.no c.if-not-can_update.true) c.args.ticket)

pub returns-then-not-can_update-clause-unchanged : goal.returns-then-not-can_update-clause-unchanged
returns-then-not-can_update-clause-unchanged g c = rw (← c.self.view_is) (λ st a m snap is. is)

pub returns-then-is_err-clause-no_memory : goal.returns-then-is_err-clause-no_memory
returns-then-is_err-clause-no_memory g c is = let may = c.can_update.ensures.yes c.if-not-can_update.false in rw (← c.self.view_is) (can_update g.P.Program.meaning (record { machine = c.self.inside.machine; counts = c.self.inside.counts; window = c.self.inside.window; reports = c.self.inside.reports }) c.args.scope may (update_home c.self.inside.machine.core c.args.scope c.can_update.ensures.order.orderly may) c.args.ticket)

pub returns-then-is_err-clause-unchanged : goal.returns-then-is_err-clause-unchanged
returns-then-is_err-clause-unchanged g c = rw (← c.self.view_is) (reports_stand g.P.Program.meaning (record { machine = c.self.inside.machine; counts = c.self.inside.counts; window = c.self.inside.window; reports = c.self.inside.reports }) c.reserve.new.self c.reserve.ensures.same)

pub ask-requires : goal.ask-requires
ask-requires g c = (room_made c.reserve.result _ (sym c.is_err.ensures.value ∙ c.if-is_err.false) c.reserve.ensures.room)

pub returns-in-Ok-clause-updated : goal.returns-in-Ok-clause-updated
returns-in-Ok-clause-updated g c = rw (← c.self.view_is) (updated_one g.P.Program.meaning (record { machine = c.self.inside.machine; counts = c.self.inside.counts; window = c.self.inside.window; reports = c.self.inside.reports }) c.update.new.self c.reserve.new.self c.can_update.ensures.order.orderly c.args.scope c.args.ticket c.in-Ok.ensures.updated c.in-Ok.ensures.run c.in-Ok.ensures.logged c.update.ensures.local c.update.ensures.program c.update.ensures.settings c.reserve.ensures.same c.ask.new.self c.ask.ensures)

pub returns-in-Err-clause-not_now : goal.returns-in-Err-clause-not_now
returns-in-Err-clause-not_now g c is = rw (← c.self.view_is) (can_not_update g.P.Program.meaning (record { machine = c.self.inside.machine; counts = c.self.inside.counts; window = c.self.inside.window; reports = c.self.inside.reports }) c.args.scope (c.in-Err.ensures.not_now is) c.args.ticket)

pub returns-in-Err-clause-no_memory : goal.returns-in-Err-clause-no_memory
returns-in-Err-clause-no_memory g c is = let may = c.in-Err.ensures.no_memory is in rw (← c.self.view_is) (can_update g.P.Program.meaning (record { machine = c.self.inside.machine; counts = c.self.inside.counts; window = c.self.inside.window; reports = c.self.inside.reports }) c.args.scope may (update_home c.self.inside.machine.core c.args.scope c.can_update.ensures.order.orderly may) c.args.ticket)

pub returns-in-Err-clause-unchanged : goal.returns-in-Err-clause-unchanged
returns-in-Err-clause-unchanged g c = rw (← c.self.view_is) (roomier_stands g.P.Program.meaning (record { machine = c.self.inside.machine; counts = c.self.inside.counts; window = c.self.inside.window; reports = c.self.inside.reports }) c.update.new.self c.reserve.new.self c.reserve.ensures.same c.in-Err.ensures.unchanged c.in-Err.ensures.same c.in-Err.ensures.tasks (λ v. ap (λ (l : LocalView). place_at l v) c.update.ensures.local) (ap (λ (l : LocalView). l.me) c.update.ensures.local) c.update.ensures.program c.update.ensures.settings)
