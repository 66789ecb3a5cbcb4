use Rattle.graph_text.proofs.sync_folds.FoldLemmas.{fold_of-append}
use Rattle.graph_text.proofs.sync_folds.laws.folds_join.Goals as goal

pub returns : goal.returns
returns c = fold_of-append
