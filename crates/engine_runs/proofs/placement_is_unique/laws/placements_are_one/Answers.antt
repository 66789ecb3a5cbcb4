-- By what a cut and a placing determine.
use Rattle.engine_runs.proofs.placement_is_unique.Placements.{owners_agree}
use Rattle.engine_runs.proofs.placement_is_unique.laws.placements_are_one.Goals as goal

pub returns : goal.returns
returns c = λ g cut machines owner other is some placement too v low. owners_agree g cut machines owner other some placement too v
