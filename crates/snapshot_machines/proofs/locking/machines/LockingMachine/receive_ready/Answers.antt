-- A scope that has its locks, for each machine of the law.
use Rattle.snapshot_machines.proofs.locking.AnswerLemmas.{ready_can, ready_now}
use Rattle.snapshot_machines.proofs.locking.machines.LockingMachine.receive_ready.Goals as goal

pub receive_ready-requires : goal.receive_ready-requires
receive_ready-requires g c = λ orderly. ready_can g.P.Program.meaning (record { machine = c.self.inside.machine; counts = c.self.inside.counts; window = c.self.inside.window; reports = c.self.inside.reports }) c.args.self.now c.self.view_is c.args.from.0 orderly c.args.scope c.requires

pub returns : goal.returns
returns g c = rw (← c.self.view_is) (ready_now g.P.Program.meaning (record { machine = c.self.inside.machine; counts = c.self.inside.counts; window = c.self.inside.window; reports = c.self.inside.reports }) c.receive_ready.new.self c.add_received.new.self c.receive_ready.ensures.kept c.receive_ready.ensures.program c.receive_ready.ensures.settings c.receive_ready.ensures.numbers c.add_received.ensures c.args.from.0 c.args.scope c.receive_ready.ensures.received)
