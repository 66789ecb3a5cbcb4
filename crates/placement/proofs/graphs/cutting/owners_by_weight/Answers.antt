use Rattle.std.proofs.Common.{◌∙◌}
use Rattle.std.proofs.lemmas.Result.{IfOk-weaker}
use Rattle.placement.specs.graphs.Placed.{atom_numbers}
use Rattle.placement.proofs.graphs.PlaceLemmas.{owners_each, owners_low}
use Rattle.placement.proofs.graphs.cutting.owners_by_weight.Goals as goal

pub returns-clause-count : goal.returns-clause-count
returns-clause-count c =
    IfOk-weaker c.place.result _ _
    (λ owners placing.
    owners_each c.args.graph.now (atom_numbers c.args.of.now) c.args.atoms c.deref.result.now c.args.machines owners.items (c.deref.ensures.value ∙ c.in_ok-weights.ensures.weights) placing)
    c.place.ensures.placed

pub returns-clause-machines : goal.returns-clause-machines
returns-clause-machines c =
    IfOk-weaker c.place.result _ _ (λ owners placing. owners_low c.deref.result.now c.args.machines owners.items placing) c.place.ensures.placed
