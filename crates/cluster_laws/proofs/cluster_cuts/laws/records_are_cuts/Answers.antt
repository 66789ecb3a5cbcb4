-- All vertices are marked, and what is saved is the cut's.
use Rattle.cluster_laws.proofs.cluster_cuts.CutsKept.{recorded, recorded_cut}
use Rattle.cluster_laws.proofs.cluster_cuts.laws.records_are_cuts.Goals as goal

pub returns-clause-held : goal.returns-clause-held
returns-clause-held c = λ st w kept is may. recorded st is w kept may

pub returns-clause-valid : goal.returns-clause-valid
returns-clause-valid c = λ st w kept is may. (recorded_cut st is w kept may).valid

pub returns-clause-cut : goal.returns-clause-cut
returns-clause-cut c = λ st w kept is may. recorded_cut st is w kept may
