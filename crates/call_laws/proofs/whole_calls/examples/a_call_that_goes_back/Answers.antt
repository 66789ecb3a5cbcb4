-- By computation.
use Rattle.call_laws.proofs.whole_calls.WorkedPair.{counts_then, failed_then, is_trace, reached_two, recorded_once}
use Rattle.call_laws.proofs.whole_calls.examples.a_call_that_goes_back.Goals as goal

pub returns-clause-premises : goal.returns-clause-premises
returns-clause-premises c = is_trace

pub returns-clause-recorded : goal.returns-clause-recorded
returns-clause-recorded c = recorded_once

pub returns-clause-reached : goal.returns-clause-reached
returns-clause-reached c = reached_two

pub returns-clause-failed : goal.returns-clause-failed
returns-clause-failed c = failed_then

pub returns-clause-counts : goal.returns-clause-counts
returns-clause-counts c = counts_then
