-- The centre tells.
use Rattle.std.proofs.Common.{sym, ◌∙◌}
use Rattle.snapshot_machines.proofs.marking.ReadyLemmas.{none_may, some_may}
use Rattle.snapshot_machines.proofs.marking.waiting.may_mark.Goals as goal

pub returns-clause-yes : goal.returns-clause-yes
returns-clause-yes c is = some_may c.args.core.now c.args.scope c.centre_to_mark.result c.requires c.centre_to_mark.ensures.some (sym c.is_some.ensures ∙ is)

pub returns-clause-no : goal.returns-clause-no
returns-clause-no c is = none_may c.args.core.now c.args.scope c.centre_to_mark.result c.centre_to_mark.ensures.none (sym c.is_some.ensures ∙ is)
