-- Order and cut go on from the start.
use Rattle.cluster_laws.specs.cluster_core.Stages.{Idle}
use Rattle.cluster_laws.proofs.cluster_places.PlacesKept.{start_placed}
use Rattle.cluster_laws.proofs.cluster_cuts.Beginning.{first_kept}
use Rattle.cluster_laws.proofs.cluster_cuts.CutsGoOn.{run_goes}
use Rattle.cluster_laws.proofs.cluster_cuts.CutsKept.{recorded, recorded_cut}
use Rattle.cluster_laws.proofs.cluster_runs.Apart.{locked_run}
use Rattle.cluster_laws.proofs.cluster_runs.laws.snapshots_are_consistent.Goals as goal

pub returns : goal.returns
returns c = λ st start actions w is locks starts unmarked run may.
    let apart = locked_run st is locks actions start w (λ s. Idle) (start_placed st start starts) run in
    let gone = run_goes st is actions start w (first_kept st is start starts unmarked) apart in
    (gone.next.order, gone.next.count, gone.next.replay.logs, gone.next.replay.valid, (recorded_cut st is w gone.next may).valid, recorded st is w gone.next may)
