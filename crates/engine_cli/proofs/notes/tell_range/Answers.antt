use Rattle.std.proofs.Common.{sym}
use Rattle.engine_cli.proofs.notes.tell_range.Goals as goal

pub returns-clause-note : goal.returns-clause-note
returns-clause-note g c = rw (sym c.name.ensures, sym c.format-value.ensures.text) c.write_texts.ensures.note
