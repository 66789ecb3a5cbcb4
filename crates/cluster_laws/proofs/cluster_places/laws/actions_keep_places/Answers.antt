-- One scope moves, and all others show what they did.
use Rattle.cluster_laws.proofs.cluster_places.PlacesKept.{action_keeps}
use Rattle.cluster_laws.proofs.cluster_places.laws.actions_keep_places.Goals as goal

pub returns : goal.returns
returns c = λ st w action stage is locks may places. action_keeps st is locks w stage places action may
