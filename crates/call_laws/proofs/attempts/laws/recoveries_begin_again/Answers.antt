-- Restarts alone are missing, and these are they.
use Rattle.call_laws.proofs.attempts.Storing.{recovery_is}
use Rattle.call_laws.proofs.attempts.laws.recoveries_begin_again.Goals as goal

pub returns : goal.returns
returns c = λ shared snapshot b a missing is back same. recovery_is shared snapshot b a missing is back same
