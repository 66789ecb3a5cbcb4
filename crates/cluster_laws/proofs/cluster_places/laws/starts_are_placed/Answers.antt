-- Nothing is seen of any scope, and nothing is on the way.
use Rattle.cluster_laws.proofs.cluster_places.PlacesKept.{start_placed, start_in_step}
use Rattle.cluster_laws.proofs.cluster_places.laws.starts_are_placed.Goals as goal

pub returns-clause-places : goal.returns-clause-places
returns-clause-places c = λ st w start. start_placed st w start

pub returns-clause-step : goal.returns-clause-step
returns-clause-step c = λ st colour step w start machines. start_in_step st w start colour step machines
