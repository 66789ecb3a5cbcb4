use Rattle.placement.proofs.plans.PlacingLemmas.{numbers_below}
use Rattle.placement.proofs.plans.placing.told_placement.Goals as goal

pub owners_by_weight-requires-clause-below : goal.owners_by_weight-requires-clause-below
owners_by_weight-requires-clause-below c = numbers_below c.args.atoms c.args.told.now c.requires.told.below
