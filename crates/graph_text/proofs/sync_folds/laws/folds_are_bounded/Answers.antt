use Rattle.graph_text.proofs.sync_folds.FoldLemmas.{reached-le-length, sum-le-length}
use Rattle.graph_text.proofs.sync_folds.laws.folds_are_bounded.Goals as goal

pub returns-clause-reached : goal.returns-clause-reached
returns-clause-reached c = reached-le-length

pub returns-clause-sum : goal.returns-clause-sum
returns-clause-sum c = sum-le-length
