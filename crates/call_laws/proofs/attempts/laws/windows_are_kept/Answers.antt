-- What the last snapshot lacks is what the last attempt did not hold.
use Rattle.call_laws.proofs.attempts.Storing.{call_window}
use Rattle.call_laws.proofs.attempts.laws.windows_are_kept.Goals as goal

pub returns : goal.returns
returns c = λ shared window call is keep. call_window shared window call is keep
