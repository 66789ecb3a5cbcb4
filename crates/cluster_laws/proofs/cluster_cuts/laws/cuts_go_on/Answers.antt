-- No count falls.
use Rattle.cluster_laws.proofs.cluster_cuts.CutsGoOn.{cuts_grow}
use Rattle.cluster_laws.proofs.cluster_cuts.laws.cuts_go_on.Goals as goal

pub returns : goal.returns
returns c = λ st old kept new gone begun v within. cuts_grow st old new kept gone begun v within
