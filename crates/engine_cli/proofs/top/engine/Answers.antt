use Rattle.std.proofs.Common.{subst, ◌∙◌}
use Rattle.job_io.specs.job_words.WordForms.{texts}
use Rattle.job_io.specs.declared.job_words.words.Words.{Words}
use Rattle.engine_cli.specs.Made.{IsOfFiles}
use Rattle.engine_cli.specs.Notes.{WritesNote}
use Rattle.engine_cli.specs.StatusMeanings.{moment}
use Rattle.engine_cli.specs.Verbs.{IsCall, IsQuiet}
use Rattle.engine_cli.proofs.NothingDone.{none-done}
use Rattle.engine_cli.proofs.OneCommand.{one_command}
use Rattle.engine_cli.proofs.top.engine.Goals as goal

pub returns-in-Ok-clause-verb : goal.returns-in-Ok-clause-verb
returns-in-Ok-clause-verb g c asked is =
    let before = moment (g.F.Files.state c.args.files.now) (g.K.Sink.faults c.args.out.now) (g.K.Sink.held c.args.out.now) in
    let now = moment (g.F.Files.state c.do_command.new.files) (g.K.Sink.faults c.do_command.new.out) (g.K.Sink.held c.do_command.new.out) in
    let V : Words → Type 0 =
    λ a. IsCall g.F.Files.disks_observable a before now (λ told. WritesNote told (g.N.Sink.held c.args.note.now) (g.N.Sink.held c.do_command.new.note) (g.N.Sink.faults c.args.note.now) (g.N.Sink.faults c.do_command.new.note)) c.do_command.result in
    subst V (one_command (texts c.args.words.now) c.in-Ok.asked asked c.in-Ok.ensures.asked is) c.do_command.ensures.verb

pub returns-in-Ok-clause-files_only : goal.returns-in-Ok-clause-files_only
returns-in-Ok-clause-files_only g c asked is of_files =
    c.do_command.ensures.files_only (subst IsOfFiles (one_command (texts c.args.words.now) asked c.in-Ok.asked is c.in-Ok.ensures.asked) of_files)

pub returns-in-Ok-clause-quiet : goal.returns-in-Ok-clause-quiet
returns-in-Ok-clause-quiet g c asked is quiet done =
    c.do_command.ensures.quiet (subst IsQuiet (one_command (texts c.args.words.now) asked c.in-Ok.asked is c.in-Ok.ensures.asked) quiet) done

pub returns-in-Err-NoMemory-clause-verb : goal.returns-in-Err-NoMemory-clause-verb
returns-in-Err-NoMemory-clause-verb g c asked is =
    none-done g.F.Files.disks_observable asked (moment (g.F.Files.state c.args.files.now) (g.K.Sink.faults c.args.out.now) (g.K.Sink.held c.args.out.now)) _ c.no_run-in-Err-NoMemory.result
    (c.no_run-in-Err-NoMemory.ensures.status ∙ c.refuse-in-Err-NoMemory.ensures.status) c.no_run-in-Err-NoMemory.ensures.none
