-- Each field is as a start has it.
use Rattle.cluster_laws.proofs.cluster_cuts.Beginning.{recovered_starts, recovered_unmarked}
use Rattle.cluster_laws.proofs.cluster_cuts.laws.recoveries_are_starts.Goals as goal

pub returns-clause-start : goal.returns-clause-start
returns-clause-start c = λ st numbers k w. recovered_starts st numbers k w

pub returns-clause-unmarked : goal.returns-clause-unmarked
returns-clause-unmarked c = λ st numbers k w. recovered_unmarked st numbers k w
