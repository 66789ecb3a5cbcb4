-- Action after action.
use Rattle.cluster_laws.proofs.cluster_cuts.CutsGoOn.{run_goes}
use Rattle.cluster_laws.proofs.cluster_cuts.laws.runs_go_on.Goals as goal

pub returns : goal.returns
returns c = λ st old kept actions new is run. run_goes st is actions old new kept run
