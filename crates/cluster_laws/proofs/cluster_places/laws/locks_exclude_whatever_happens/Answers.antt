-- Places are kept from action to action.
use Rattle.cluster_laws.specs.cluster_core.Stages.{Idle}
use Rattle.cluster_laws.proofs.cluster_places.Excluding.{exclusive}
use Rattle.cluster_laws.proofs.cluster_places.PlacesKept.{start_placed, runs_keep}
use Rattle.cluster_laws.proofs.cluster_places.laws.locks_exclude_whatever_happens.Goals as goal

pub returns : goal.returns
returns c = λ st start actions w is locks is_start run.
    let placed = runs_keep st is locks actions start w ((λ s. Idle), start_placed st start is_start) run in
    exclusive st is w placed.0 placed.1
