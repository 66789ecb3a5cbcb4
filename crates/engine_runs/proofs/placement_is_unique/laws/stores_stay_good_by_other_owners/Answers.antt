-- Each update of a good order is of a vertex of the graph.
use Rattle.engine_runs.proofs.placement_is_unique.StoreOwners.{store_too}
use Rattle.engine_runs.proofs.placement_is_unique.laws.stores_stay_good_by_other_owners.Goals as goal

pub returns : goal.returns
returns c = λ shared same header bodies is graph program agree. store_too shared same is graph program agree header bodies
