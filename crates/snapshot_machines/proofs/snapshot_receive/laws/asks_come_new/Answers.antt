use Rattle.snapshot_machines.proofs.snapshot_receive.FrontLemmas.{ask_comes_new, ask_goes_further}
use Rattle.snapshot_machines.proofs.snapshot_receive.laws.asks_come_new.Goals as goal

pub returns-clause-is_new : goal.returns-clause-is_new
returns-clause-is_new t = ask_comes_new

pub returns-clause-machines : goal.returns-clause-machines
returns-clause-machines t = ask_goes_further
