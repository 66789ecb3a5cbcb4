-- One update more than there are vertices would not be valid.
use Rattle.full_runs.proofs.PairLemmas.{unspent}
use Rattle.full_runs.proofs.laws.full_runs_of_pairs_are_few.Goals as goal

pub returns : goal.returns
returns c = λ g owner budget order values edges left enough runs. unspent g owner budget order values edges left enough runs
