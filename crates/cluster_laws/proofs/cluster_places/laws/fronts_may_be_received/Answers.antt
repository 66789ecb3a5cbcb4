-- The message tells in which stage its scope is.
use Rattle.cluster_laws.proofs.cluster_places.Fronts.{front}
use Rattle.cluster_laws.proofs.cluster_places.laws.fronts_may_be_received.Goals as goal

pub returns : goal.returns
returns c = λ st w stage p q message behind is places concerns first. front st is w stage places p q concerns message behind first
