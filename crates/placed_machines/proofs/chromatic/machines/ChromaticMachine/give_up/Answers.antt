-- It fails.
use Rattle.placed_machines.proofs.chromatic.ReadLemmas.{failed_standing}
use Rattle.placed_machines.proofs.chromatic.machines.ChromaticMachine.give_up.Goals as goal

pub returns : goal.returns
returns g c = failed_standing g.P.Program.meaning c.args.self.now
