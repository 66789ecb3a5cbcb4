-- News are made and received; each other action tells none.
use Rattle.cluster_laws.proofs.cluster_numbers.Keeping.{action_goes_on}
use Rattle.cluster_laws.proofs.cluster_numbers.laws.actions_keep_numbers.Goals as goal

pub returns : goal.returns
returns c = λ st w action order is apart may copies replay.
    let next = action_goes_on st is w order copies replay apart action may in
    (next.copies, next.rest, next.replay)
