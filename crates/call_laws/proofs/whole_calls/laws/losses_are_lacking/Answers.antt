-- By the call that the events make.
use Rattle.call_laws.proofs.whole_calls.Calling.{the_losses}
use Rattle.call_laws.proofs.whole_calls.laws.losses_are_lacking.Goals as goal

pub returns : goal.returns
returns c = λ st failures kept resumed base first events cluster to merged trace back merges.
    the_losses st failures kept resumed base first events cluster trace to merged back merges
