use Rattle.graph_text.proofs.sync_folds.FoldLemmas.{fold_of-permutation}
use Rattle.graph_text.proofs.sync_folds.laws.order_does_not_count.Goals as goal

pub returns : goal.returns
returns c = fold_of-permutation
