use Rattle.engine_cli.proofs.FilesMade.{writes-named}
use Rattle.job_io.proofs.whole_files.FilesCreated.{writes-nothing}
use Rattle.engine_cli.proofs.printing.print_run.Goals.{in-Some+in_ok-lines+in_ok-write_file, in_default}
use Rattle.engine_cli.proofs.printing.print_run.Goals as goal

pub returns-in_err-write_all-clause-wrote : goal.returns-in_err-write_all-clause-wrote
returns-in_err-write_all-clause-wrote g c =
    elim c.match-job.branch [
      | in-Some+in_ok-lines+in_ok-write_file w ↦ rw w.files-is (writes-named c.args.prepared.now.job.order w.as_str.result.now _ (g.F.Files.state c.args.files.now) (g.F.Files.state w.write_file.new.files) w.in-Some.is w.as_str.ensures w.in_ok-write_file.ensures.wrote)
      | in_default w ↦ rw w.files-is (writes-nothing _ (g.F.Files.state c.args.files.now))
    ]

pub returns-clause-wrote : goal.returns-clause-wrote
returns-clause-wrote g c =
    elim c.match-job.branch [
      | in-Some+in_ok-lines+in_ok-write_file w ↦ rw w.files-is (writes-named c.args.prepared.now.job.order w.as_str.result.now _ (g.F.Files.state c.args.files.now) (g.F.Files.state w.write_file.new.files) w.in-Some.is w.as_str.ensures w.in_ok-write_file.ensures.wrote)
      | in_default w ↦ rw w.files-is (writes-nothing _ (g.F.Files.state c.args.files.now))
    ]
