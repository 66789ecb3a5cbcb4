use Rattle.tests_parts.proofs.Rows.{has_row}
use Rattle.tests_parts.proofs.held.played.Goals as goal

pub returns : goal.returns
returns c = has_row c.args.me c.args.lines.now c.args.outline c.in_ok-local.local c.in_ok-local.ensures
