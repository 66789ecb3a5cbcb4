use Rattle.graph_atoms.specs.atom_gather.Cuts.{CanBeCut}
use Rattle.std.proofs.Common.{subst}
use Rattle.placement.proofs.plans.PlacingLemmas.{is_told}
use Rattle.placement.proofs.plans.placing.cut_placement.Goals as goal

pub returns-in-Told : goal.returns-in-Told
returns-in-Told c =
    let of = c.told_placement.ensures.of in
    let placing = c.told_placement.ensures.placing in
    is_told c.args.graph.now c.args.cut.now c.in-Told.atoms c.in-Told.of c.args.plan c.told_placement.result c.requires.several c.in-Told.is
    (subst (CanBeCut c.args.graph.now) c.in-Told.is c.requires.cut) (rw c.deref.ensures.value at of) (rw c.deref.ensures.value at placing) c.told_placement.ensures.machines
