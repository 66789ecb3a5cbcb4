use Rattle.std.proofs.Common.{sym}
use Rattle.graph_text.proofs.sync_folds.FoldLemmas.{fold_of-append}
use Rattle.graph_text.proofs.sync_folds.folds.Fold.merge.Goals as goal

pub returns-clause-lists : goal.returns-clause-lists
returns-clause-lists c = λ xs ys p q. rw (c.max.ensures, p, q) (sym (fold_of-append xs ys))
