use Rattle.std.proofs.Common.{Err, ap, rules}
use Rattle.std.proofs.lemmas.Result.{err_from_is_err_and}
use Rattle.gl_outside.specs.declared.files.FileNo.{FileNo}
use Rattle.gl_outside.proofs.Opening.{source_opened}
use Rattle.job_io.proofs.whole_files.NamesHanded.{OnOk-of}
use Rattle.job_io.proofs.whole_files.TextsRead.{front-of, front-unopened, hands-file, reads-file, reads-none}
use Rattle.job_io.proofs.whole_files.reading.front_of.Goals as goal

pub new-requires : goal.new-requires
new-requires g c = (source_opened (g.F.Files.state c.args.files.now) (g.F.Files.state c.open_source.new.self) c.args.name.now c.in_ok-file.file c.in_ok-file.ensures.opens).0

pub returns-clause-answer : goal.returns-clause-answer
returns-clause-answer g c =
    front-of c.args.most (g.F.Files.state c.args.files.now) (g.F.Files.state c.open_source.new.self) (g.F.Files.state c.new.result.files.now) (g.F.Files.state c.read_front.new.source.files.now) _ c.args.name.now c.in_ok-file.file c.new.result.file.0 c.read_front.result c.in_ok-file.ensures.opens c.in_ok-file.ensures.there c.in_ok-file.ensures.later
    (ap (λ (f : FileNo). f.0) c.new.ensures.file) (ap g.F.Files.state c.new.ensures.files) (search rules) c.read_front.ensures.answer

pub returns-clause-read : goal.returns-clause-read
returns-clause-read g c =
    (reads-file (g.F.Files.state c.args.files.now) (g.F.Files.state c.open_source.new.self) (g.F.Files.state c.new.result.files.now) (g.F.Files.state c.read_front.new.source.files.now) _ c.args.name.now c.in_ok-file.file c.new.result.file.0 c.in_ok-file.ensures.opens c.in_ok-file.ensures.names c.in_ok-file.ensures.later
    (ap (λ (f : FileNo). f.0) c.new.ensures.file) (ap g.F.Files.state c.new.ensures.files) c.read_front.ensures.same.2 c.read_front.ensures.later (search rules)).0

pub returns-clause-handed : goal.returns-clause-handed
returns-clause-handed g c =
    OnOk-of c.read_front.result _
    (hands-file (g.F.Files.state c.args.files.now) (g.F.Files.state c.open_source.new.self) (g.F.Files.state c.new.result.files.now) (g.F.Files.state c.read_front.new.source.files.now) _
    c.args.name.now c.in_ok-file.file c.new.result.file.0 c.in_ok-file.ensures.names (ap g.F.Files.state c.new.ensures.files) c.read_front.ensures.same.2 (search rules))

pub returns-in_err-file-clause-answer : goal.returns-in_err-file-clause-answer
returns-in_err-file-clause-answer g c =
    let exit = err_from_is_err_and c.from_residual.result c.from_residual.ensures.1 in
    rw (exit.1, exit.2) (front-unopened c.args.most (g.F.Files.state c.args.files.now).sources.names ((g.F.Files.state c.args.files.now).contents c.args.name.now) (g.F.Files.state c.args.files.now).sources.faults (g.F.Files.state c.open_source.new.self).sources.faults c.in_err-file.field-0.0 (λ e. c.in_err-file.ensures.failed (ap Err e)))

pub returns-in_err-file-clause-read : goal.returns-in_err-file-clause-read
returns-in_err-file-clause-read g c =
    reads-none (g.F.Files.state c.args.files.now) (g.F.Files.state c.open_source.new.self) c.args.name.now c.in_err-file.field-0.0
    c.in_err-file.ensures.opens c.in_err-file.ensures.names c.in_err-file.ensures.later
