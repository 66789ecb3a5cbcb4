-- By the cut of growth or the one that was told, and by atoms that are placed one after the other.
use Rattle.engine_runs.proofs.placement_is_unique.PlacementsMade.{some_placement}
use Rattle.engine_runs.proofs.placement_is_unique.laws.graphs_are_placed.Goals as goal

pub returns : goal.returns
returns c = λ g cut machines some. some_placement g cut machines some
