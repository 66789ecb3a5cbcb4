-- The fold of the numbers so far.
use Rattle.std.proofs.Common.{◌≡◌, take}
use Rattle.graph_text.specs.sync_folds.Folds.{fold_of}
use Rattle.graph_text.proofs.sync_folds.folds.Fold.of.Given as goal

abbrev pub invariant-loop-value : goal.invariant-loop-value
invariant-loop-value l = l.fold ≡ fold_of (take l.value-index l.values)
