use Rattle.std.proofs.Common.{sym}
use Rattle.engine_cli.proofs.notes.tell_job.Goals as goal

pub returns-in-NotJson-clause-note : goal.returns-in-NotJson-clause-note
returns-in-NotJson-clause-note g c = rw c.in-NotJson.is c.write_text.ensures.note

pub returns-in-UnknownKey-clause-note : goal.returns-in-UnknownKey-clause-note
returns-in-UnknownKey-clause-note g c = rw (c.in-UnknownKey.is, sym c.as_str.ensures) c.write_line.ensures.note

pub returns-in-Missing-clause-note : goal.returns-in-Missing-clause-note
returns-in-Missing-clause-note g c = rw c.in-Missing.is c.tell_key.ensures.note
