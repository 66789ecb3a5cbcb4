use Rattle.std.proofs.Common.{sym}
use Rattle.engine_cli.proofs.notes.tell_number.Goals as goal

pub returns-clause-note : goal.returns-clause-note
returns-clause-note g c = rw (sym c.format-number.ensures.text) c.write_line.ensures.note
