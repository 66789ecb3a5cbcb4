use Rattle.std.proofs.Common.{◌≡◌, inr, ℕ, take, refl, ap, rules}
use Rattle.gl_outside.specs.FilesState.{FilesState}
use Rattle.gl_outside.specs.declared.files.FileNo.{FileNo}
use Rattle.gl_outside.proofs.Opening.{sink_opened}
use Rattle.job_io.proofs.whole_files.FilesCreated.{OnOk-map, gives-written, hands-written, only-these, writes-none, wrote-file}
use Rattle.job_io.proofs.whole_files.NamesHanded.{OnOk-of}
use Rattle.job_io.proofs.whole_files.writing.write_file.Goals as goal

pub new-requires : goal.new-requires
new-requires g c = (sink_opened (g.F.Files.state c.args.files.now) (g.F.Files.state c.open_sink.new.self) c.args.name.now c.in-Ok.file c.in-Ok.ensures.opens).0

pub returns-clause-wrote : goal.returns-clause-wrote
returns-clause-wrote g c =
    wrote-file (g.F.Files.state c.args.files.now) (g.F.Files.state c.open_sink.new.self) (g.F.Files.state c.new.result.files.now) (g.F.Files.state c.write_bytes.new.sink.files.now) _ c.args.name.now c.args.name.now c.in-Ok.file c.new.result.file.0 refl c.in-Ok.ensures.opens c.in-Ok.ensures.names c.in-Ok.ensures.later
    (ap (λ (f : FileNo). f.0) c.new.ensures.file) (ap g.F.Files.state c.new.ensures.files) c.write_bytes.ensures.same.2 c.write_bytes.ensures.later (search rules)

pub returns-in-Err-clause-wrote : goal.returns-in-Err-clause-wrote
returns-in-Err-clause-wrote g c =
    writes-none (g.F.Files.state c.args.files.now) (g.F.Files.state c.open_sink.new.self) c.args.name.now c.in-Err.fault c.in-Err.ensures.opens c.in-Err.ensures.names c.in-Err.ensures.later

pub returns-clause-written : goal.returns-clause-written
returns-clause-written g c =
    OnOk-map c.write_bytes.result _ _
    (λ appends. only-these (g.F.Files.state c.args.files.now).sinks.names _ c.args.bytes.now (gives-written (g.F.Files.state c.args.files.now) (g.F.Files.state c.open_sink.new.self) (g.F.Files.state c.new.result.files.now) (g.F.Files.state c.write_bytes.new.sink.files.now) _ c.args.name.now c.args.name.now c.in-Ok.file c.new.result.file.0 c.write_bytes.new.sink.file.0 c.args.bytes.now (λ bytes. bytes ≡ c.args.bytes.now) refl c.in-Ok.ensures.opens
    (ap (λ (f : FileNo). f.0) c.new.ensures.file) (ap g.F.Files.state c.new.ensures.files) c.write_bytes.ensures.same.2 (search rules) c.write_bytes.ensures.same.1 (g.met.F.Files.filled c.write_bytes.new.sink.files.now c.write_bytes.new.sink.file.0) appends refl))
    c.write_bytes.ensures.written

pub returns-clause-front : goal.returns-clause-front
returns-clause-front g c =
    let front = c.write_bytes.ensures.front in
    inr (gives-written (g.F.Files.state c.args.files.now) (g.F.Files.state c.open_sink.new.self) (g.F.Files.state c.new.result.files.now) (g.F.Files.state c.write_bytes.new.sink.files.now) _ c.args.name.now c.args.name.now c.in-Ok.file c.new.result.file.0 c.write_bytes.new.sink.file.0 (take front.0 c.args.bytes.now) (λ bytes. (count : ℕ) × (bytes ≡ take count c.args.bytes.now)) refl c.in-Ok.ensures.opens
    (ap (λ (f : FileNo). f.0) c.new.ensures.file) (ap g.F.Files.state c.new.ensures.files) c.write_bytes.ensures.same.2 (search rules) c.write_bytes.ensures.same.1 (g.met.F.Files.filled c.write_bytes.new.sink.files.now c.write_bytes.new.sink.file.0) front.1 (front.0, refl))

pub returns-in-Err-clause-no_memory : goal.returns-in-Err-clause-no_memory
returns-in-Err-clause-no_memory g c is = ap (λ (s : FilesState). s.contents) c.in-Err.ensures.opens

pub returns-clause-handed : goal.returns-clause-handed
returns-clause-handed g c =
    OnOk-of c.write_bytes.result _
    (hands-written (g.F.Files.state c.args.files.now) (g.F.Files.state c.open_sink.new.self) (g.F.Files.state c.new.result.files.now) (g.F.Files.state c.write_bytes.new.sink.files.now) _
    c.args.name.now c.args.name.now c.in-Ok.file c.new.result.file.0 refl c.in-Ok.ensures.names (ap g.F.Files.state c.new.ensures.files) c.write_bytes.ensures.same.2 (search rules))
