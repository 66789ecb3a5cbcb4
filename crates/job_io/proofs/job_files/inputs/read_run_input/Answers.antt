use Rattle.std.proofs.Common.{inl, Ok, Err, subst}
use Rattle.std.proofs.lemmas.Result.{err_from_is_err_and}
use Rattle.gl_outside.proofs.Opening.{ChangesSources-trans}
use Rattle.job_io.specs.whole_files.FilesUsed.{OpensInOrder}
use Rattle.job_io.specs.job_files.NamesRead.{names_of}
use Rattle.job_io.proofs.job_files.AtomsLooked.{atoms-names-before, named-before}
use Rattle.job_io.proofs.job_files.InputsRead.{hands-for-run, refuses-early, run-cut, run-read, run-refused, run-unread}
use Rattle.job_io.proofs.job_files.inputs.read_run_input.Goals as goal

pub returns-in_err-input-clause-answer : goal.returns-in_err-input-clause-answer
returns-in_err-input-clause-answer g c =
    let exit = err_from_is_err_and c.from_residual.result c.from_residual.ensures.1 in
    rw (exit.1, exit.2) (run-unread c.args.verb (g.F.Files.state c.args.files.now) (g.F.Files.state c.read_input.new.files).sources.faults c.args.file.now c.in_err-input.field-0.0 c.in_err-input.ensures.answer)

pub returns-in_err-input-clause-handed : goal.returns-in_err-input-clause-handed
returns-in_err-input-clause-handed g c = inl c.in_err-input.ensures.read.handed

pub returns-in_err-input-clause-refused : goal.returns-in_err-input-clause-refused
returns-in_err-input-clause-refused g c =
    let exit = err_from_is_err_and c.from_residual.result c.from_residual.ensures.1 in
    rw (exit.1, exit.2) (refuses-early c.args.verb (g.F.Files.state c.args.files.now) (g.F.Files.state c.read_input.new.files) (g.F.Files.state c.read_input.new.files).sources.faults c.args.file.now c.in_err-input.field-0.0 c.in_err-input.ensures.read.handed)

pub returns-in-Ok-clause-answer : goal.returns-in-Ok-clause-answer
returns-in-Ok-clause-answer g c =
    let files = g.F.Files.state c.args.files.now in
    let mid = g.F.Files.state c.read_input.new.files in
    let now = (g.F.Files.state c.cut_of.new.files).sources.faults in
    let input = c.in_ok-input.input in
    let was = c.in_ok-input.ensures in
    run-read c.args.verb files now c.args.file.now input c.in-Ok.cut was.answer
    (named-before files mid now (names_of c.args.verb files c.args.file.now) input.job.atoms_at input.job.atoms input.graph (Ok c.in-Ok.cut) was.read.frame was.handed was.read.later c.in-Ok.ensures.answer)

pub returns-in-Ok-clause-cut : goal.returns-in-Ok-clause-cut
returns-in-Ok-clause-cut g c =
    let files = g.F.Files.state c.args.files.now in
    let mid = g.F.Files.state c.read_input.new.files in
    let now = (g.F.Files.state c.cut_of.new.files).sources.faults in
    let input = c.in_ok-input.input in
    let was = c.in_ok-input.ensures in
    run-cut files now input.graph input.job.atoms_at input.job.atoms c.in-Ok.cut
    (named-before files mid now (names_of c.args.verb files c.args.file.now) input.job.atoms_at input.job.atoms input.graph (Ok c.in-Ok.cut) was.read.frame was.handed was.read.later c.in-Ok.ensures.answer)

pub returns-in-Ok-clause-frame : goal.returns-in-Ok-clause-frame
returns-in-Ok-clause-frame g c =
    ChangesSources-trans (g.F.Files.state c.args.files.now) (g.F.Files.state c.read_input.new.files) (g.F.Files.state c.cut_of.new.files) c.in_ok-input.ensures.read.frame c.in-Ok.ensures.read.frame

pub returns-in-Ok-clause-handed : goal.returns-in-Ok-clause-handed
returns-in-Ok-clause-handed g c =
    let files = g.F.Files.state c.args.files.now in
    let mid = g.F.Files.state c.read_input.new.files in
    let new = g.F.Files.state c.cut_of.new.files in
    let input = c.in_ok-input.input in
    let was = c.in_ok-input.ensures in
    hands-for-run c.args.verb files mid new c.args.file.now input was.answer was.handed
    (subst (OpensInOrder mid.sources.names new.sources.names) (atoms-names-before files mid input.job.atoms_at was.read.frame) c.in-Ok.ensures.read.handed)

pub returns-in-Err-clause-answer : goal.returns-in-Err-clause-answer
returns-in-Err-clause-answer g c =
    let files = g.F.Files.state c.args.files.now in
    let mid = g.F.Files.state c.read_input.new.files in
    let now = (g.F.Files.state c.cut_of.new.files).sources.faults in
    let input = c.in_ok-input.input in
    let was = c.in_ok-input.ensures in
    run-refused c.args.verb files now c.args.file.now input c.in-Err.why was.answer
    (named-before files mid now (names_of c.args.verb files c.args.file.now) input.job.atoms_at input.job.atoms input.graph (Err c.in-Err.why) was.read.frame was.handed was.read.later c.in-Err.ensures.answer)

pub returns-in-Err-clause-handed : goal.returns-in-Err-clause-handed
returns-in-Err-clause-handed g c =
    let files = g.F.Files.state c.args.files.now in
    let mid = g.F.Files.state c.read_input.new.files in
    let new = g.F.Files.state c.cut_of.new.files in
    let input = c.in_ok-input.input in
    let was = c.in_ok-input.ensures in
    hands-for-run c.args.verb files mid new c.args.file.now input was.answer was.handed
    (subst (OpensInOrder mid.sources.names new.sources.names) (atoms-names-before files mid input.job.atoms_at was.read.frame) c.in-Err.ensures.read.handed)
