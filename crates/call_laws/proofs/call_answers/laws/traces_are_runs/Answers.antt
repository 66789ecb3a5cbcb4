-- By the call that the events make.
use Rattle.call_laws.proofs.call_answers.Listing.{trace_runs}
use Rattle.call_laws.proofs.call_answers.laws.traces_are_runs.Goals as goal

pub returns : goal.returns
returns c = λ st failures kept resumed base first events cluster lists trace are. trace_runs st failures kept resumed base first events cluster lists trace are
