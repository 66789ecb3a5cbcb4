-- Of each vertex a cut has the first updates.
use Rattle.cluster_laws.proofs.cluster_cuts.CutLists.{cuts_nest}
use Rattle.cluster_laws.proofs.cluster_cuts.laws.later_cuts_have_more.Goals as goal

pub returns : goal.returns
returns c = λ order more one other v few low. cuts_nest order more one other v few low
