use Rattle.full_runs.proofs.QuietLemmas.{both_none}
use Rattle.full_runs.proofs.quiet.has_message.Goals as goal

pub returns : goal.returns
returns c = λ st p w are none.
    both_none (w.link c.args.from.0 c.args.to.0) ((w.part c.args.from.0).out c.args.to.0) (c.is_on_link.ensures st p w are c.if-is_on_link.false) (c.is_in_outbox.ensures st p w are none)
