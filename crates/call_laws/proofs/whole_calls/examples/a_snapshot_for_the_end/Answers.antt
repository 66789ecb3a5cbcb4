-- By computation.
use Rattle.call_laws.proofs.whole_calls.WorkedEnd.{ended_then, is_trace, saved_then, unasked_once}
use Rattle.call_laws.proofs.whole_calls.examples.a_snapshot_for_the_end.Goals as goal

pub returns-clause-premises : goal.returns-clause-premises
returns-clause-premises c = is_trace

pub returns-clause-unasked : goal.returns-clause-unasked
returns-clause-unasked c = unasked_once

pub returns-clause-ended : goal.returns-clause-ended
returns-clause-ended c = ended_then

pub returns-clause-saved : goal.returns-clause-saved
returns-clause-saved c = saved_then
