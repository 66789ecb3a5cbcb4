-- The same as for levels, with weights as costs.
use Rattle.seq_run.proofs.LevelsAndPaths.{paths_at_rest}
use Rattle.seq_run.proofs.laws.paths_are_distances.Goals as goal

pub returns : goal.returns
returns c = λ g source is within order valid finished v v_within. paths_at_rest g is source within order valid finished v v_within
