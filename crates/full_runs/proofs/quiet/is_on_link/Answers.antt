use Rattle.std.proofs.Common.{refl}
use Rattle.full_runs.proofs.QuietLemmas.{none_waits}
use Rattle.full_runs.proofs.quiet.is_on_link.Goals as goal

pub returns-in-Some : goal.returns-in-Some
returns-in-Some c = λ st p w are none.
    let link = c.in-Some.ensures.some st p w are in
    none_waits (w.link c.args.from.0 c.args.to.0) (λ has. c.waits.ensures.not st (w.link c.args.from.0) link.are none has)

pub returns-in-None : goal.returns-in-None
returns-in-None c = λ st p w are none. (are.beyond c.args.from.0 (c.in-None.ensures.none st p w are refl)).link c.args.to.0
