use Rattle.engine_cli.proofs.notes.tell_store.Goals as goal

pub returns-in-Torn-clause-note : goal.returns-in-Torn-clause-note
returns-in-Torn-clause-note g c = rw c.in-Torn.is c.tell_number.ensures.note

pub returns-in-BadByte-clause-note : goal.returns-in-BadByte-clause-note
returns-in-BadByte-clause-note g c = rw c.in-BadByte.is c.tell_number-in-BadByte.ensures.note

pub returns-in-Machines-clause-note : goal.returns-in-Machines-clause-note
returns-in-Machines-clause-note g c = rw c.in-Machines.is c.tell_machines.ensures.note

pub returns-in-Graph-clause-note : goal.returns-in-Graph-clause-note
returns-in-Graph-clause-note g c = rw c.in-Graph.is c.write_text.ensures.note

pub returns-in-Program-clause-note : goal.returns-in-Program-clause-note
returns-in-Program-clause-note g c = rw c.in-Program.is c.write_text-in-Program.ensures.note

pub returns-in-Used-clause-note : goal.returns-in-Used-clause-note
returns-in-Used-clause-note g c = rw c.in-Used.is c.tell_number-in-Used.ensures.note
