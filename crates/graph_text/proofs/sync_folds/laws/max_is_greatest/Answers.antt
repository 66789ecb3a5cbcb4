use Rattle.graph_text.specs.sync_folds.Folds.{reached_of}
use Rattle.graph_text.proofs.sync_folds.FoldLemmas.{greatest-bounds, greatest-among}
use Rattle.graph_text.proofs.sync_folds.laws.max_is_greatest.Goals as goal

pub returns-clause-bound : goal.returns-clause-bound
returns-clause-bound c = λ values. greatest-bounds (reached_of values)

pub returns-clause-among : goal.returns-clause-among
returns-clause-among c = λ values. greatest-among (reached_of values)
