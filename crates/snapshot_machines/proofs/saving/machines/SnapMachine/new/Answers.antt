use Rattle.snapshot_machines.proofs.saving.StayLemmas.{fresh_one}
use Rattle.snapshot_machines.proofs.saving.machines.SnapMachine.new.Goals as goal

pub invariant_of-result : goal.invariant_of-result
invariant_of-result g c = fresh_one c.args.core c.new-snaps.result c.requires c.new-snaps.ensures
