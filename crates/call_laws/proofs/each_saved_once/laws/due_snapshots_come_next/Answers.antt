-- At most one snapshot is under way.
use Rattle.call_laws.proofs.each_saved_once.InCalls.{next_due}
use Rattle.call_laws.proofs.each_saved_once.laws.due_snapshots_come_next.Goals as goal

pub returns : goal.returns
returns c = λ st failures kept resumed base first events cluster trace. next_due st failures kept resumed base first events cluster trace
