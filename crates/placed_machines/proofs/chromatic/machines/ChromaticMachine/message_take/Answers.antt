-- What is sent.
use Rattle.placed_machines.proofs.chromatic.ReadLemmas.{message_back, message_now, messages_none}
use Rattle.placed_machines.proofs.chromatic.machines.ChromaticMachine.message_take.Goals as goal

pub returns-in-Some-clause-taken : goal.returns-in-Some-clause-taken
returns-in-Some-clause-taken g c = rw (← c.self.view_is) (message_now g.P.Program.meaning (record { machine = c.self.inside.machine; counts = c.self.inside.counts; window = c.self.inside.window; reports = c.self.inside.reports }) c.args.to c.outbox_take.new.self c.outbox_take.ensures.behind c.outbox_take.ensures.kept c.outbox_take.ensures.step c.add_sent.new.self c.in-Some.message c.add_sent.ensures c.in-Some.ensures.first)

pub returns-in-None-clause-none : goal.returns-in-None-clause-none
returns-in-None-clause-none g c = rw (← c.self.view_is) (messages_none g.P.Program.meaning (record { machine = c.self.inside.machine; counts = c.self.inside.counts; window = c.self.inside.window; reports = c.self.inside.reports }) c.args.to c.in-None.ensures.first)

pub returns-in-None-clause-unchanged : goal.returns-in-None-clause-unchanged
returns-in-None-clause-unchanged g c = rw (← c.self.view_is) (message_back g.P.Program.meaning (record { machine = c.self.inside.machine; counts = c.self.inside.counts; window = c.self.inside.window; reports = c.self.inside.reports }) c.args.to c.outbox_take.new.self c.outbox_take.ensures.behind c.outbox_take.ensures.kept c.outbox_take.ensures.step c.in-None.ensures.first)
