use Rattle.std.proofs.Common.{sym}
use Rattle.engine_cli.proofs.notes.tell_full.Goals as goal

pub returns-clause-note : goal.returns-clause-note
returns-clause-note g c = rw (sym c.format-stored.ensures.text, sym c.format-length.ensures.text) c.write_texts.ensures.note
