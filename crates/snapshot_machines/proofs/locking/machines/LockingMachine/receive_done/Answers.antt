-- Word of an update, for each machine of the law.
use Rattle.snapshot_machines.proofs.locking.AnswerLemmas.{done_can}
use Rattle.snapshot_machines.proofs.locking.ReceiveLemmas.{done_now}
use Rattle.snapshot_machines.proofs.locking.machines.LockingMachine.receive_done.Goals as goal

pub learn-requires : goal.learn-requires
learn-requires g c = λ orderly. done_can g.P.Program.meaning (record { machine = c.self.inside.machine; counts = c.self.inside.counts; window = c.self.inside.window; reports = c.self.inside.reports }) c.args.self.now c.self.view_is c.args.from.0 orderly c.args.done c.requires

pub returns : goal.returns
returns g c = rw (← c.self.view_is) (done_now g.P.Program.meaning (record { machine = c.self.inside.machine; counts = c.self.inside.counts; window = c.self.inside.window; reports = c.self.inside.reports }) c.learn.new.self c.args.done (done_can g.P.Program.meaning (record { machine = c.self.inside.machine; counts = c.self.inside.counts; window = c.self.inside.window; reports = c.self.inside.reports }) c.args.self.now c.self.view_is c.args.from.0 c.learn.ensures.order.orderly c.args.done c.requires).not_own c.learn.ensures.learned c.learn.ensures.kept c.learn.ensures.tasks c.learn.ensures.local c.learn.ensures.program c.learn.ensures.settings c.args.from.0 c.add_received.new.self c.add_received.ensures)
