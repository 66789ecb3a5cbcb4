-- Event after event.
use Rattle.whole_laws.proofs.cluster_whole.Wholeness.{traces_stay}
use Rattle.whole_laws.proofs.cluster_whole.laws.traces_stay_whole.Goals as goal

pub returns : goal.returns
returns c = λ st events old new is whole trace. traces_stay st is events old new whole trace
