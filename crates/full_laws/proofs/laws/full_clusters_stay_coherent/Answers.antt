-- Each action keeps it so.
use Rattle.full_laws.proofs.FullCoherence.{coherent, run_kept, start_kept}
use Rattle.full_laws.proofs.laws.full_clusters_stay_coherent.Goals as goal

pub returns : goal.returns
returns c = λ st p start actions w is starts run. coherent st p w (run_kept st is p actions start w (start_kept st is p start starts) run)
