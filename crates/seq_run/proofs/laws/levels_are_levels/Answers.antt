-- Numbers are costs of walks, and once each vertex is relaxed they are the least.
use Rattle.seq_run.proofs.LevelsAndPaths.{levels_at_rest}
use Rattle.seq_run.proofs.laws.levels_are_levels.Goals as goal

pub returns : goal.returns
returns c = λ g source is within order valid finished v v_within. levels_at_rest g is source within order valid finished v v_within
