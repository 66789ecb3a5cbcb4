-- Attempt by attempt.
use Rattle.recovery.proofs.restarts.Coming.{come_first}
use Rattle.recovery.proofs.restarts.laws.stored_restarts_come_first.Goals as goal

pub returns : goal.returns
returns c = λ st failures kept resumed base first events own header start bodies trace kept_is keeps. come_first st failures kept resumed base first events own trace header start bodies kept_is keeps
