-- What machines tell each other, by its kind.
use Rattle.placed_machines.proofs.chromatic.machines.ChromaticMachine.receive_first.Goals as goal

pub returns-in-Done-clause-received : goal.returns-in-Done-clause-received
returns-in-Done-clause-received g c = rw c.in-Done.is c.receive_done.ensures.received
