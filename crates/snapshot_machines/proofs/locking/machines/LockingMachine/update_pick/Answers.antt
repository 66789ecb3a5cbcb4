-- The update at once, and what is asked for behind it, for each machine of the law.
use Rattle.std.proofs.Common.{sym, ap, ◌∙◌}
use Rattle.local_graph.specs.Locals.{LocalView, place_at}
use Rattle.snapshot_machines.proofs.locking.AnswerLemmas.{error_is, room_made}
use Rattle.snapshot_machines.proofs.locking.AtOnceLemmas.{can_at_once, can_not_at_once, updated_at_once}
use Rattle.snapshot_machines.proofs.locking.StandLemmas.{reports_stand, roomier_stands}
use Rattle.snapshot_machines.proofs.locking.machines.LockingMachine.update_pick.Goals as goal

pub returns-then-is_err-clause-not_now : goal.returns-then-is_err-clause-not_now
returns-then-is_err-clause-not_now g c is = rw (← c.self.view_is) (can_not_at_once g.P.Program.meaning (record { machine = c.self.inside.machine; counts = c.self.inside.counts; window = c.self.inside.window; reports = c.self.inside.reports }) c.refusal_at_once.ensures.order.orderly c.refusal_at_once.ensures.order.places c.refusal_at_once.ensures.order.outside (c.refusal_at_once.ensures.not_now (error_is c.refusal_at_once.result _ is)))

pub returns-then-is_err-clause-no_memory : goal.returns-then-is_err-clause-no_memory
returns-then-is_err-clause-no_memory g c is = rw (← c.self.view_is) (can_at_once g.P.Program.meaning (record { machine = c.self.inside.machine; counts = c.self.inside.counts; window = c.self.inside.window; reports = c.self.inside.reports }) c.refusal_at_once.ensures.order.orderly c.refusal_at_once.ensures.order.places c.refusal_at_once.ensures.order.outside (c.refusal_at_once.ensures.no_memory (error_is c.refusal_at_once.result _ is)))

pub returns-then-is_err-clause-unchanged : goal.returns-then-is_err-clause-unchanged
returns-then-is_err-clause-unchanged g c = rw (← c.self.view_is) (reports_stand g.P.Program.meaning (record { machine = c.self.inside.machine; counts = c.self.inside.counts; window = c.self.inside.window; reports = c.self.inside.reports }) c.reserve.new.self c.reserve.ensures.same)

pub ask-requires : goal.ask-requires
ask-requires g c = (room_made c.reserve.result _ (sym c.is_err.ensures.value ∙ c.if-is_err.false) c.reserve.ensures.room)

pub returns-in-Ok-clause-updated : goal.returns-in-Ok-clause-updated
returns-in-Ok-clause-updated g c =
    rw (← c.self.view_is)
    (updated_at_once g.P.Program.meaning (record { machine = c.self.inside.machine; counts = c.self.inside.counts; window = c.self.inside.window; reports = c.self.inside.reports }) c.update_at_once.new.self c.reserve.new.self c.update_at_once.ensures.order.orderly c.update_at_once.ensures.order.outside c.in-Ok.vertex c.args.ticket c.in-Ok.ensures.updated c.in-Ok.ensures.run c.in-Ok.ensures.logged
    c.update_at_once.ensures.local c.update_at_once.ensures.program c.update_at_once.ensures.settings c.reserve.ensures.same c.ask.new.self c.ask.ensures)

pub returns-in-Err-clause-not_now : goal.returns-in-Err-clause-not_now
returns-in-Err-clause-not_now g c is = rw (← c.self.view_is) (can_not_at_once g.P.Program.meaning (record { machine = c.self.inside.machine; counts = c.self.inside.counts; window = c.self.inside.window; reports = c.self.inside.reports }) c.update_at_once.ensures.order.orderly c.update_at_once.ensures.order.places c.update_at_once.ensures.order.outside (c.in-Err.ensures.not_now is))

pub returns-in-Err-clause-no_memory : goal.returns-in-Err-clause-no_memory
returns-in-Err-clause-no_memory g c is = rw (← c.self.view_is) (can_at_once g.P.Program.meaning (record { machine = c.self.inside.machine; counts = c.self.inside.counts; window = c.self.inside.window; reports = c.self.inside.reports }) c.update_at_once.ensures.order.orderly c.update_at_once.ensures.order.places c.update_at_once.ensures.order.outside (c.in-Err.ensures.no_memory is))

pub returns-in-Err-clause-unchanged : goal.returns-in-Err-clause-unchanged
returns-in-Err-clause-unchanged g c =
    rw (← c.self.view_is)
    (roomier_stands g.P.Program.meaning (record { machine = c.self.inside.machine; counts = c.self.inside.counts; window = c.self.inside.window; reports = c.self.inside.reports }) c.update_at_once.new.self c.reserve.new.self c.reserve.ensures.same c.in-Err.ensures.unchanged c.in-Err.ensures.same c.in-Err.ensures.tasks
    (λ v. ap (λ (l : LocalView). place_at l v) c.update_at_once.ensures.local) (ap (λ (l : LocalView). l.me) c.update_at_once.ensures.local) c.update_at_once.ensures.program c.update_at_once.ensures.settings)
