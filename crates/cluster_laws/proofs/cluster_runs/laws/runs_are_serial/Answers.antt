-- The order of the coherent cluster.
use Rattle.cluster_laws.proofs.cluster_runs.Coherence.{start_coherent, coherent_run}
use Rattle.cluster_laws.proofs.cluster_runs.laws.runs_are_serial.Goals as goal

pub returns : goal.returns
returns c = λ st start actions w is locks starts run.
    let last = coherent_run st is locks actions start w (start_coherent st is start starts) run in
    (last.order, last.replay.valid, last.replay.logs, last.replay.numbers, last.replay.tasks)
