-- Each of the ready ones was looked at.
use Rattle.snapshot_machines.proofs.marking.ReadyLemmas.{none_at_all}
use Rattle.snapshot_machines.proofs.marking.waiting.next_mark.Goals as goal

pub returns-clause-none : goal.returns-clause-none
returns-clause-none c = none_at_all c.args.core.now c.ready_ones-ready.result.now c.loop-place.place c.ready_ones-ready.ensures c.loop-place-test.false c.loop-place.invariant
