use denote.Param.Send.{sendable}
use Rattle.std.proofs.Crossing.{crosses}
use Rattle.std.proofs.lemmas.Result.{err_from_is_err_and}
use Rattle.job_io.specs.job_config.Views.{job_view}
use Rattle.engine_cli.proofs.JobFailures.{few-failures, job-failures}
use Rattle.engine_cli.proofs.Preparing.{alone-used, can-cut, can-run, edges-fit, handed-used, input-names, input-refuses, input-used, none-made, reads-used, rose-since, runs-since, sources-input, store-late, store-unused, store-used}
use Rattle.engine_cli.proofs.running.prepare.Goals as goal

pub returns-in_err-input-clause-answer : goal.returns-in_err-input-clause-answer
returns-in_err-input-clause-answer g c =
    let exit = err_from_is_err_and c.from_residual.result c.from_residual.ensures.1 in
    rw (exit.1, exit.2) (input-refuses g.F.Files.disks_observable c.args.asked c.args.file.now (g.F.Files.state c.args.files.now) (g.F.Files.state c.read_run_input.new.files) c.in_err-input.field-0.0 c.in_err-input.ensures.answer c.in_err-input.ensures.frame)

pub returns-in_err-input-clause-frame : goal.returns-in_err-input-clause-frame
returns-in_err-input-clause-frame g c = sources-input (g.F.Files.state c.args.files.now) (g.F.Files.state c.read_run_input.new.files) c.in_err-input.ensures.frame

pub returns-in_err-input-clause-early : goal.returns-in_err-input-clause-early
returns-in_err-input-clause-early g c =
    let exit = err_from_is_err_and c.from_residual.result c.from_residual.ensures.1 in
    rw exit.1 (λ early. c.in_err-input.ensures.frame)

pub returns-in_err-input-clause-refused : goal.returns-in_err-input-clause-refused
returns-in_err-input-clause-refused g c =
    let exit = err_from_is_err_and c.from_residual.result c.from_residual.ensures.1 in
    rw (exit.1, exit.2) (input-names c.args.asked c.args.file.now (g.F.Files.state c.args.files.now) (g.F.Files.state c.read_run_input.new.files) c.in_err-input.field-0.0 c.in_err-input.ensures.refused)

pub returns-in_err-input-clause-used : goal.returns-in_err-input-clause-used
returns-in_err-input-clause-used g c = store-unused c.args.asked c.args.file.now (g.F.Files.state c.args.files.now) (g.F.Files.state c.read_run_input.new.files) c.in_err-input.ensures.frame

pub run_input-requires : goal.run_input-requires
run_input-requires g c =
    let input = c.in_ok-input.input in
    let was = c.in_ok-input.ensures.answer.0 in (
      search (sendable, crosses) depth 40,
      (
        search (sendable, crosses) depth 40,
        can-run c.args.asked input c.requires was.ready.doable was.directed was.ready.numbers (job-failures input.job.machines input.job.failures.items was.ready.failures) (few-failures input.job.machines input.job.failures.items was.ready.failures)
            was.graph was.start (can-cut c.in_ok-input.input (g.F.Files.state c.args.files.now) was.ready.numbers.atoms.0 c.in_ok-input.ensures.cut),
      ),
    )

pub returns-in-Ok-clause-answer : goal.returns-in-Ok-clause-answer
returns-in-Ok-clause-answer g c =
    let old = g.F.Files.state c.args.files.now in
    let mid = g.F.Files.state c.read_run_input.new.files in
    let new = g.F.Files.state c.run_input.new.files in
    let input = c.in_ok-input.input in
    let job = job_view input.job in
    let was = c.in_ok-input.ensures.answer.0 in
    let frame = c.in_ok-input.ensures.frame in
    let made = c.in-Ok.ensures.made in
    record {
      job = was.job;
      texts = was.texts;
      atoms = c.in_ok-input.ensures.answer.1;
      graph = was.graph;
      start = was.start;
      edges_fit = edges-fit c.args.asked job input.graph c.requires was.ready.doable was.directed;
      cut = input.cut;
      cut_is = c.in_ok-input.ensures.cut;
      runs = runs-since g.F.Files.disks_observable c.args.asked c.args.file.now old mid new frame job input.graph input.cut c.in-Ok.run' job.fields.store made.runs;
      fault = λ is. rose-since g.F.Files.disks_observable c.args.asked c.args.file.now old mid new frame (made.fault is);
      printable = c.in-Ok.ensures.printable;
      alone = λ none. alone-used g.F.Files.disks_observable c.args.asked c.args.file.now old mid new frame job.fields.store c.in-Ok.ensures.used none;
    }

pub returns-in-Ok-clause-frame : goal.returns-in-Ok-clause-frame
returns-in-Ok-clause-frame g c =
    input-used g.F.Files.disks_observable c.args.asked c.args.file.now (g.F.Files.state c.args.files.now) (g.F.Files.state c.read_run_input.new.files) (g.F.Files.state c.run_input.new.files) c.in_ok-input.ensures.frame
    c.in_ok-input.input.job.store c.in-Ok.ensures.used

pub returns-in-Ok-clause-handed : goal.returns-in-Ok-clause-handed
returns-in-Ok-clause-handed g c =
    handed-used g.F.Files.disks_observable c.args.asked c.args.file.now (g.F.Files.state c.args.files.now) (g.F.Files.state c.read_run_input.new.files) (g.F.Files.state c.run_input.new.files) c.in_ok-input.ensures.frame
    c.in_ok-input.input.job.store c.in-Ok.ensures.used c.in_ok-input.ensures.handed

pub returns-in-Ok-clause-used : goal.returns-in-Ok-clause-used
returns-in-Ok-clause-used g c =
    store-used g.F.Files.disks_observable c.args.asked c.args.file.now (g.F.Files.state c.args.files.now) (g.F.Files.state c.read_run_input.new.files) (g.F.Files.state c.run_input.new.files) c.in_ok-input.ensures.frame
    (job_view c.in_ok-input.input.job) c.in_ok-input.ensures.answer.0.job c.in-Ok.ensures.used

pub returns-in-Ok-clause-later : goal.returns-in-Ok-clause-later
returns-in-Ok-clause-later g c =
    reads-used g.F.Files.disks_observable c.args.asked c.args.file.now (g.F.Files.state c.args.files.now) (g.F.Files.state c.read_run_input.new.files) (g.F.Files.state c.run_input.new.files) c.in_ok-input.ensures.frame
    c.in_ok-input.input.job.store c.in-Ok.ensures.used c.in_ok-input.ensures.later

pub returns-in-Err-clause-answer : goal.returns-in-Err-clause-answer
returns-in-Err-clause-answer g c =
    rw c.into.ensures
    (none-made g.F.Files.disks_observable c.args.asked c.args.file.now (g.F.Files.state c.args.files.now) (g.F.Files.state c.read_run_input.new.files) (g.F.Files.state c.run_input.new.files) c.in_ok-input.ensures.frame
    c.in_ok-input.input c.in_ok-input.ensures.answer.0 c.in_ok-input.ensures.cut c.in-Err.why c.in-Err.ensures.used c.in-Err.ensures.refused)

pub returns-in-Err-clause-frame : goal.returns-in-Err-clause-frame
returns-in-Err-clause-frame g c =
    input-used g.F.Files.disks_observable c.args.asked c.args.file.now (g.F.Files.state c.args.files.now) (g.F.Files.state c.read_run_input.new.files) (g.F.Files.state c.run_input.new.files) c.in_ok-input.ensures.frame
    c.in_ok-input.input.job.store c.in-Err.ensures.used

pub returns-in-Err-clause-early : goal.returns-in-Err-clause-early
returns-in-Err-clause-early g c = rw c.into.ensures (λ early. absurd ((store-late c.in-Err.why).0 early))

pub returns-in-Err-clause-handed : goal.returns-in-Err-clause-handed
returns-in-Err-clause-handed g c =
    handed-used g.F.Files.disks_observable c.args.asked c.args.file.now (g.F.Files.state c.args.files.now) (g.F.Files.state c.read_run_input.new.files) (g.F.Files.state c.run_input.new.files) c.in_ok-input.ensures.frame
    c.in_ok-input.input.job.store c.in-Err.ensures.used c.in_ok-input.ensures.handed

pub returns-in-Err-clause-refused : goal.returns-in-Err-clause-refused
returns-in-Err-clause-refused g c = rw c.into.ensures (λ refused. absurd ((store-late c.in-Err.why).1 refused))

pub returns-in-Err-clause-used : goal.returns-in-Err-clause-used
returns-in-Err-clause-used g c =
    store-used g.F.Files.disks_observable c.args.asked c.args.file.now (g.F.Files.state c.args.files.now) (g.F.Files.state c.read_run_input.new.files) (g.F.Files.state c.run_input.new.files) c.in_ok-input.ensures.frame
    (job_view c.in_ok-input.input.job) c.in_ok-input.ensures.answer.0.job c.in-Err.ensures.used

pub returns-in-Err-clause-later : goal.returns-in-Err-clause-later
returns-in-Err-clause-later g c =
    reads-used g.F.Files.disks_observable c.args.asked c.args.file.now (g.F.Files.state c.args.files.now) (g.F.Files.state c.read_run_input.new.files) (g.F.Files.state c.run_input.new.files) c.in_ok-input.ensures.frame
    c.in_ok-input.input.job.store c.in-Err.ensures.used c.in_ok-input.ensures.later
