-- By the call that the events make, and by what is logged in its last attempt.
use Rattle.call_laws.proofs.each_saved_once.InCalls.{front_below, tickets_left, updates_below}
use Rattle.call_laws.proofs.each_saved_once.laws.tickets_keep_to_the_budget.Goals as goal

pub returns-clause-next : goal.returns-clause-next
returns-clause-next c = λ st failures kept resumed base first events cluster trace. tickets_left st failures kept resumed base first events cluster trace

pub returns-clause-updates : goal.returns-clause-updates
returns-clause-updates c = λ st failures kept resumed base first events cluster trace. updates_below st failures kept resumed base first events cluster trace

pub returns-clause-front : goal.returns-clause-front
returns-clause-front c = λ st failures kept resumed base first events cluster trace. front_below st failures kept resumed base first events cluster trace
