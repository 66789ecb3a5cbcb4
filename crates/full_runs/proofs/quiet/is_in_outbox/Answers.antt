use Rattle.std.proofs.Common.{refl}
use Rattle.full_runs.proofs.QuietLemmas.{none_waits}
use Rattle.full_runs.proofs.quiet.is_in_outbox.Goals as goal

pub returns-in-Some : goal.returns-in-Some
returns-in-Some c = λ st p w are none.
    let seat = c.in-Some.ensures.some st p w are in
    none_waits ((w.part c.args.from.0).out c.args.to.0) (λ has. c.waits.ensures.not st (w.part c.args.from.0).out seat.is.out none has)

pub returns-in-None : goal.returns-in-None
returns-in-None c = λ st p w are none. (are.beyond c.args.from.0 (c.in-None.ensures.none st p w are refl)).out c.args.to.0
