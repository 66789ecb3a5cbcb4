use Rattle.std.proofs.Common.{sym}
use Rattle.engine_cli.proofs.top.do_command.Goals as goal

pub returns-in-Run-clause-verb : goal.returns-in-Run-clause-verb
returns-in-Run-clause-verb g c = rw (c.in-Run.is, sym c.as_str.ensures) c.run_file.ensures.run

pub returns-in-Resume-clause-verb : goal.returns-in-Resume-clause-verb
returns-in-Resume-clause-verb g c = rw (c.in-Resume.is, sym c.as_str-in-Resume.ensures) c.run_file-in-Resume.ensures.run
