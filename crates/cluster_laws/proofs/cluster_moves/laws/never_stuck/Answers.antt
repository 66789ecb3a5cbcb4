-- What is kept from action to action is enough for one more.
use Rattle.cluster_laws.specs.cluster_core.Stages.{Idle}
use Rattle.cluster_laws.proofs.cluster_places.PlacesKept.{start_placed}
use Rattle.cluster_laws.proofs.cluster_moves.CountedKept.{start_counted}
use Rattle.cluster_laws.proofs.cluster_moves.NeverStuck.{start_due, run_works}
use Rattle.cluster_laws.proofs.cluster_moves.laws.never_stuck.Goals as goal

pub returns : goal.returns
returns c = λ st start actions w is locks room is_start run ticket.
    run_works st is locks room actions start w (λ s. Idle) (start_placed st start is_start) (start_due st start is_start) (start_counted st start is_start) run ticket
