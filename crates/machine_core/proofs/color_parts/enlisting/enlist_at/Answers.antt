-- The vertex is added where it is due.
use Rattle.std.proofs.Common.{sym, ◌∙◌}
use Rattle.machine_core.proofs.color_parts.EnlistLemmas.{added, not_added}
use Rattle.machine_core.proofs.color_parts.enlisting.enlist_at.Goals as goal

pub returns-then-is_free_such-clause-in_line : goal.returns-then-is_free_such-clause-in_line
returns-then-is_free_such-clause-in_line c = λ u. c.add.ensures.waits u ∙ added c.args.which c.args.tasks.now c.args.place.0 u _ (sym c.is_free_such.ensures ∙ c.if-is_free_such.true)

pub returns-else-is_free_such-clause-in_line : goal.returns-else-is_free_such-clause-in_line
returns-else-is_free_such-clause-in_line c = λ u. not_added c.args.which c.args.tasks.now c.args.place.0 u _ (sym c.is_free_such.ensures ∙ c.if-is_free_such.false)
