-- Both ways.
use Rattle.snapshot_machines.proofs.wave_counts.IdleLemmas.{idle_is_rest, rest_is_idle}
use Rattle.snapshot_machines.proofs.wave_counts.laws.machines_at_rest_are_idle.Goals as goal

pub returns : goal.returns
returns c = λ st part tasks pipe are. (rest_is_idle st part tasks pipe are, idle_is_rest st part tasks pipe are)
