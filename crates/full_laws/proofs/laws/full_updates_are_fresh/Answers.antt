-- The scope holds all its locks, so nothing is given that it is lent.
use Rattle.full_laws.proofs.FullCoherence.{fresh_law, run_kept, start_kept}
use Rattle.full_laws.proofs.laws.full_updates_are_fresh.Goals as goal

pub returns : goal.returns
returns c = λ st p start actions w is starts run. fresh_law st is p w (run_kept st is p actions start w (start_kept st is p start starts) run)
