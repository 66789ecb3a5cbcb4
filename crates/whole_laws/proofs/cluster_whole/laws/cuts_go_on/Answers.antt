-- Event after event the order and the cut go on.
use Rattle.cluster_laws.proofs.cluster_cuts.CutsGoOn.{cuts_grow}
use Rattle.whole_laws.specs.cluster_whole.Views.{world_of}
use Rattle.whole_laws.proofs.cluster_whole.Wholeness.{goes_on}
use Rattle.whole_laws.proofs.cluster_whole.laws.cuts_go_on.Goals as goal

pub returns : goal.returns
returns c = λ st events old new whole is none trace begun.
    let goes = goes_on st is events none old new whole trace in
    (goes.next, goes.rest, goes.order, goes.tickets, goes.drawn, λ v within. cuts_grow st (world_of old) (world_of new) whole.consistent goes begun v within)
