use Rattle.snapshot_machines.proofs.snapshot_receive.FrontLemmas.{ready_comes_home}
use Rattle.snapshot_machines.proofs.snapshot_receive.laws.readies_come_home.Goals as goal

pub returns : goal.returns
returns t = ready_comes_home
