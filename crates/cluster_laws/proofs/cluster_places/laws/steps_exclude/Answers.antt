-- Two vertices of one colour are no neighbours.
use Rattle.cluster_laws.proofs.cluster_places.StepsKept.{step_excludes}
use Rattle.cluster_laws.proofs.cluster_places.laws.steps_exclude.Goals as goal

pub returns : goal.returns
returns c = λ st colour step w apart in_step. step_excludes st colour step apart w in_step
