use Rattle.std.proofs.Common.{Err, ap, rules}
use Rattle.gl_outside.specs.declared.files.FileNo.{FileNo}
use Rattle.gl_outside.proofs.Opening.{source_opened}
use Rattle.job_io.proofs.whole_files.NamesHanded.{OnOk-of}
use Rattle.job_io.proofs.job_files.GraphTexts.{edges-of, edges-unopened}
use Rattle.job_io.proofs.whole_files.TextsRead.{hands-file, reads-file, reads-none}
use Rattle.job_io.proofs.job_files.graphs.edges_of.Goals as goal

pub new-source-requires : goal.new-source-requires
new-source-requires g c = (source_opened (g.F.Files.state c.args.files.now) (g.F.Files.state c.open_source.new.self) c.args.name.now c.in-Ok.file c.in-Ok.ensures.opens).0

pub returns-clause-answer : goal.returns-clause-answer
returns-clause-answer g c =
    edges-of c.args.directed c.args.weighted c.args.list.ids.items (g.F.Files.state c.args.files.now) (g.F.Files.state c.open_source.new.self) (g.F.Files.state c.new-source.result.files.now) (g.F.Files.state c.read_edges.new.source.files.now) _ c.args.name.now c.in-Ok.file c.new-source.result.file.0 c.read_edges.result c.in-Ok.ensures.opens c.in-Ok.ensures.there c.in-Ok.ensures.later
    (ap (λ (f : FileNo). f.0) c.new-source.ensures.file) (ap g.F.Files.state c.new-source.ensures.files) (search rules) c.read_edges.ensures.answer

pub returns-clause-read : goal.returns-clause-read
returns-clause-read g c =
    (reads-file (g.F.Files.state c.args.files.now) (g.F.Files.state c.open_source.new.self) (g.F.Files.state c.new-source.result.files.now) (g.F.Files.state c.read_edges.new.source.files.now) _ c.args.name.now c.in-Ok.file c.new-source.result.file.0 c.in-Ok.ensures.opens c.in-Ok.ensures.names c.in-Ok.ensures.later
    (ap (λ (f : FileNo). f.0) c.new-source.ensures.file) (ap g.F.Files.state c.new-source.ensures.files) c.read_edges.ensures.same.2 c.read_edges.ensures.later (search rules)).0

pub returns-clause-handed : goal.returns-clause-handed
returns-clause-handed g c =
    OnOk-of c.read_edges.result _
    (hands-file (g.F.Files.state c.args.files.now) (g.F.Files.state c.open_source.new.self) (g.F.Files.state c.new-source.result.files.now) (g.F.Files.state c.read_edges.new.source.files.now) _
    c.args.name.now c.in-Ok.file c.new-source.result.file.0 c.in-Ok.ensures.names (ap g.F.Files.state c.new-source.ensures.files) c.read_edges.ensures.same.2 (search rules))

pub returns-in-Err-clause-answer : goal.returns-in-Err-clause-answer
returns-in-Err-clause-answer g c =
    rw c.not_opened.ensures (edges-unopened c.args.directed c.args.weighted c.args.list.ids.items (g.F.Files.state c.args.files.now).sources.names ((g.F.Files.state c.args.files.now).contents c.args.name.now) (g.F.Files.state c.args.files.now).sources.faults (g.F.Files.state c.open_source.new.self).sources.faults c.in-Err.fault (λ e. c.in-Err.ensures.failed (ap Err e)))

pub returns-in-Err-clause-read : goal.returns-in-Err-clause-read
returns-in-Err-clause-read g c =
    reads-none (g.F.Files.state c.args.files.now) (g.F.Files.state c.open_source.new.self) c.args.name.now c.in-Err.fault
    c.in-Err.ensures.opens c.in-Err.ensures.names c.in-Err.ensures.later
