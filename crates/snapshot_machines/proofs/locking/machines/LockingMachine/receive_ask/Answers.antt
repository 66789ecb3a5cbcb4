-- A scope that asks, for each machine of the law.
use Rattle.snapshot_machines.proofs.locking.AnswerLemmas.{ask_can, ask_now}
use Rattle.snapshot_machines.proofs.locking.ScopeLemmas.{grant_back_now}
use Rattle.snapshot_machines.proofs.locking.machines.LockingMachine.receive_ask.Goals as goal

pub receive_ask-requires-clause-is_new : goal.receive_ask-requires-clause-is_new
receive_ask-requires-clause-is_new g c = λ orderly. (ask_can g.P.Program.meaning (record { machine = c.self.inside.machine; counts = c.self.inside.counts; window = c.self.inside.window; reports = c.self.inside.reports }) c.args.self.now c.self.view_is c.args.from.0 orderly c.args.scope c.args.centre c.args.rest c.requires).0

pub receive_ask-requires-clause-machines : goal.receive_ask-requires-clause-machines
receive_ask-requires-clause-machines g c = λ orderly. (ask_can g.P.Program.meaning (record { machine = c.self.inside.machine; counts = c.self.inside.counts; window = c.self.inside.window; reports = c.self.inside.reports }) c.args.self.now c.self.view_is c.args.from.0 orderly c.args.scope c.args.centre c.args.rest c.requires).1

pub returns-in-Ok-clause-received : goal.returns-in-Ok-clause-received
returns-in-Ok-clause-received g c = rw (← c.self.view_is) (ask_now g.P.Program.meaning (record { machine = c.self.inside.machine; counts = c.self.inside.counts; window = c.self.inside.window; reports = c.self.inside.reports }) c.receive_ask.new.self c.add_received.new.self c.receive_ask.ensures.kept c.receive_ask.ensures.program c.receive_ask.ensures.settings c.receive_ask.ensures.numbers c.add_received.ensures c.args.from.0 c.args.scope c.args.centre c.args.rest c.in-Ok.ensures.received)

pub returns-in-Err-clause-unchanged : goal.returns-in-Err-clause-unchanged
returns-in-Err-clause-unchanged g c = rw (← c.self.view_is) (grant_back_now g.P.Program.meaning (record { machine = c.self.inside.machine; counts = c.self.inside.counts; window = c.self.inside.window; reports = c.self.inside.reports }) c.receive_ask.new.self c.receive_ask.ensures.kept c.receive_ask.ensures.program c.receive_ask.ensures.settings c.receive_ask.ensures.numbers c.in-Err.ensures.unchanged.1)
