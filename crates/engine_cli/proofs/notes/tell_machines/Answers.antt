use Rattle.std.proofs.Common.{sym}
use Rattle.engine_cli.proofs.notes.tell_machines.Goals as goal

pub returns-clause-note : goal.returns-clause-note
returns-clause-note g c = rw (sym c.format-kept.ensures.text, sym c.format-given.ensures.text) c.write_texts.ensures.note
