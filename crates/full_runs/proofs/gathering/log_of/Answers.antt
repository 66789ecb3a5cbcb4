use Rattle.std.proofs.Common.{refl, arith}
use Rattle.full_runs.proofs.gathering.log_of.Goals as goal

pub returns-in-Some : goal.returns-in-Some
returns-in-Some c = λ st p w are low.
    let seat = c.in-Some.ensures.some st p w are in
    c.log.ensures st (w.part c.args.a.0) seat.is

pub returns-in-None : goal.returns-in-None
returns-in-None c = λ st p w are low.
    let past = c.in-None.ensures.none st p w are refl in
    absurd (omega (arith, low, past))
