-- Nobody stands at the place, or who does has no mark.
use Rattle.snapshot_machines.proofs.marking.SendLemmas.{one_unmarked}
use Rattle.snapshot_machines.proofs.marking.sending.are_all_marked.Goals as goal

pub returns-clause-some : goal.returns-clause-some
returns-clause-some c is = one_unmarked c.args.numbers.now c.args.known c.first_unmarked.result c.own_at.result c.is_none.result c.first_unmarked.ensures.first c.own_at.ensures.some c.is_none.ensures is
