use Rattle.std.proofs.Common.{Err, ap, rules}
use Rattle.gl_outside.specs.declared.files.FileNo.{FileNo}
use Rattle.gl_outside.proofs.Opening.{source_opened}
use Rattle.job_io.proofs.whole_files.NamesHanded.{OnOk-of}
use Rattle.job_io.proofs.job_files.GraphTexts.{vertices-of, vertices-unopened}
use Rattle.job_io.proofs.whole_files.TextsRead.{hands-file, reads-file, reads-none}
use Rattle.job_io.proofs.job_files.graphs.vertices_of.Goals as goal

pub new-requires : goal.new-requires
new-requires g c = (source_opened (g.F.Files.state c.args.files.now) (g.F.Files.state c.open_source.new.self) c.args.name.now c.in-Ok.file c.in-Ok.ensures.opens).0

pub returns-clause-answer : goal.returns-clause-answer
returns-clause-answer g c =
    vertices-of (g.F.Files.state c.args.files.now) (g.F.Files.state c.open_source.new.self) (g.F.Files.state c.new.result.files.now) (g.F.Files.state c.read_vertices.new.source.files.now) _ c.args.name.now c.in-Ok.file c.new.result.file.0 c.read_vertices.result c.in-Ok.ensures.opens c.in-Ok.ensures.there c.in-Ok.ensures.later
    (ap (λ (f : FileNo). f.0) c.new.ensures.file) (ap g.F.Files.state c.new.ensures.files) (search rules) c.read_vertices.ensures.answer

pub returns-clause-read : goal.returns-clause-read
returns-clause-read g c =
    (reads-file (g.F.Files.state c.args.files.now) (g.F.Files.state c.open_source.new.self) (g.F.Files.state c.new.result.files.now) (g.F.Files.state c.read_vertices.new.source.files.now) _ c.args.name.now c.in-Ok.file c.new.result.file.0 c.in-Ok.ensures.opens c.in-Ok.ensures.names c.in-Ok.ensures.later
    (ap (λ (f : FileNo). f.0) c.new.ensures.file) (ap g.F.Files.state c.new.ensures.files) c.read_vertices.ensures.same.2 c.read_vertices.ensures.later (search rules)).0

pub returns-clause-handed : goal.returns-clause-handed
returns-clause-handed g c =
    OnOk-of c.read_vertices.result _
    (hands-file (g.F.Files.state c.args.files.now) (g.F.Files.state c.open_source.new.self) (g.F.Files.state c.new.result.files.now) (g.F.Files.state c.read_vertices.new.source.files.now) _
    c.args.name.now c.in-Ok.file c.new.result.file.0 c.in-Ok.ensures.names (ap g.F.Files.state c.new.ensures.files) c.read_vertices.ensures.same.2 (search rules))

pub returns-in-Err-clause-answer : goal.returns-in-Err-clause-answer
returns-in-Err-clause-answer g c =
    rw c.not_opened.ensures (vertices-unopened (g.F.Files.state c.args.files.now).sources.names ((g.F.Files.state c.args.files.now).contents c.args.name.now) (g.F.Files.state c.args.files.now).sources.faults (g.F.Files.state c.open_source.new.self).sources.faults c.in-Err.fault (λ e. c.in-Err.ensures.failed (ap Err e)))

pub returns-in-Err-clause-read : goal.returns-in-Err-clause-read
returns-in-Err-clause-read g c =
    reads-none (g.F.Files.state c.args.files.now) (g.F.Files.state c.open_source.new.self) c.args.name.now c.in-Err.fault
    c.in-Err.ensures.opens c.in-Err.ensures.names c.in-Err.ensures.later
