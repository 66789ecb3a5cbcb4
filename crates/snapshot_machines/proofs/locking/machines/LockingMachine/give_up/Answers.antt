-- It fails.
use Rattle.snapshot_machines.proofs.locking.ReadLemmas.{failed_standing}
use Rattle.snapshot_machines.proofs.locking.machines.LockingMachine.give_up.Goals as goal

pub returns : goal.returns
returns g c = failed_standing g.P.Program.meaning c.args.self.now
