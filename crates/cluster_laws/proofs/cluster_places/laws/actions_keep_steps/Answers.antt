-- Only vertices of the step's colour are admitted.
use Rattle.cluster_laws.proofs.cluster_places.StepsKept.{action_stays}
use Rattle.cluster_laws.proofs.cluster_places.laws.actions_keep_steps.Goals as goal

pub returns : goal.returns
returns c = λ st colour colours step w action coloured may in_step. action_stays st colour step colours coloured w in_step action may
