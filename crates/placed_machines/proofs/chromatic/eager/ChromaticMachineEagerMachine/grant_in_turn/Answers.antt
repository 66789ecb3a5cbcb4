-- Nobody waits for a lock.
use Rattle.placed_machines.proofs.chromatic.AnswerLemmas.{none_granted}
use Rattle.placed_machines.proofs.chromatic.eager.ChromaticMachineEagerMachine.grant_in_turn.Goals as goal

pub returns-clause-not_now : goal.returns-clause-not_now
returns-clause-not_now g c is = none_granted g.P.Program.meaning c.args.self.now c.args._x.0
