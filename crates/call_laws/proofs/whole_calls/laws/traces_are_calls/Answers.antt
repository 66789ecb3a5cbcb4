-- The attempts, one after another, are a call.
use Rattle.call_laws.proofs.whole_calls.Calling.{the_call}
use Rattle.call_laws.proofs.whole_calls.laws.traces_are_calls.Goals as goal

pub returns : goal.returns
returns c = λ st failures kept resumed base first events cluster trace. the_call st failures kept resumed base first events cluster trace
