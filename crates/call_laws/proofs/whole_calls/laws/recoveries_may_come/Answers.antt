-- By the call that the events make.
use Rattle.call_laws.proofs.whole_calls.Calling.{the_return}
use Rattle.call_laws.proofs.whole_calls.laws.recoveries_may_come.Goals as goal

pub returns : goal.returns
returns c = λ st failures kept resumed base first events cluster orders missing trace some all are lacks.
    the_return st failures kept resumed base first events cluster trace some all orders missing are lacks
