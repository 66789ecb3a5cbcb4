use Rattle.snapshot_machines.proofs.snapshot_receive.FrontLemmas.{none_else}
use Rattle.snapshot_machines.proofs.snapshot_receive.laws.nothing_else_comes.Goals as goal

pub returns : goal.returns
returns t = none_else
