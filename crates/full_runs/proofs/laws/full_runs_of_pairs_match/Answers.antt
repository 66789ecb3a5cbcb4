-- The numbers that are left are those of the replay.
use Rattle.full_runs.proofs.PairLemmas.{matches}
use Rattle.full_runs.proofs.laws.full_runs_of_pairs_match.Goals as goal

pub returns : goal.returns
returns c = λ g owner budget order values edges is runs. matches g is owner budget order values edges runs
