-- Action by action.
use Rattle.cluster_laws.proofs.cluster_cuts.CutsKept.{one_step}
use Rattle.cluster_laws.proofs.cluster_cuts.laws.actions_keep_consistence.Goals as goal

pub returns : goal.returns
returns c = λ st w kept action is apart may. one_step st is w kept apart action may
