-- Nobody waits for a lock.
use Rattle.placed_machines.proofs.chromatic.AnswerLemmas.{none_granted}
use Rattle.placed_machines.proofs.chromatic.members.ChromaticMachineSavingMachine.next_grant.Goals as goal

pub returns-clause-none : goal.returns-clause-none
returns-clause-none g c v = none_granted g.P.Program.meaning c.args.self.now v
