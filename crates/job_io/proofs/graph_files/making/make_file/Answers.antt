use Rattle.std.proofs.Common.{◌≡◌, ◌++◌, inr, ap, rules}
use Rattle.gl_outside.specs.declared.files.FileNo.{FileNo}
use Rattle.gl_outside.proofs.Opening.{sink_opened}
use Rattle.job_io.specs.graph_files.Made.{IsMade, IsMadeFront, ending_of}
use Rattle.job_io.proofs.whole_files.FilesCreated.{OnOk-map, gives-written, hands-written, writes-none, writes-nothing, wrote-file}
use Rattle.job_io.proofs.whole_files.NamesHanded.{OnOk-of}
use Rattle.job_io.proofs.graph_files.making.make_file.Goals as goal

pub new-requires : goal.new-requires
new-requires g c = (sink_opened (g.F.Files.state c.args.files.now) (g.F.Files.state c.open_sink.new.self) c.as_str.result.now c.in-Ok.file c.in-Ok.ensures.opens).0

pub returns-clause-wrote : goal.returns-clause-wrote
returns-clause-wrote g c =
    let named : c.as_str.result.now ≡ c.args.prefix.now ++ ending_of c.args.text = search rules in
    wrote-file (g.F.Files.state c.args.files.now) (g.F.Files.state c.open_sink.new.self) (g.F.Files.state c.new.result.files.now) (g.F.Files.state c.write_text.new.sink.files.now) _ c.as_str.result.now (c.args.prefix.now ++ ending_of c.args.text) c.in-Ok.file c.new.result.file.0 named c.in-Ok.ensures.opens c.in-Ok.ensures.names c.in-Ok.ensures.later
    (ap (λ (f : FileNo). f.0) c.new.ensures.file) (ap g.F.Files.state c.new.ensures.files) c.write_text.ensures.same.2 c.write_text.ensures.later (search rules)

pub returns-in-Err-clause-wrote : goal.returns-in-Err-clause-wrote
returns-in-Err-clause-wrote g c =
    let named : c.as_str.result.now ≡ c.args.prefix.now ++ ending_of c.args.text = search rules in
    rw named at (writes-none (g.F.Files.state c.args.files.now) (g.F.Files.state c.open_sink.new.self) c.as_str.result.now c.in-Err.fault c.in-Err.ensures.opens c.in-Err.ensures.names c.in-Err.ensures.later)

pub returns-in_err-name-clause-wrote : goal.returns-in_err-name-clause-wrote
returns-in_err-name-clause-wrote g c = writes-nothing _ (g.F.Files.state c.args.files.now)

pub returns-clause-made : goal.returns-clause-made
returns-clause-made g c =
    let named : c.as_str.result.now ≡ c.args.prefix.now ++ ending_of c.args.text = search rules in
    OnOk-map c.write_text.result _ _
    (λ made. gives-written (g.F.Files.state c.args.files.now) (g.F.Files.state c.open_sink.new.self) (g.F.Files.state c.new.result.files.now) (g.F.Files.state c.write_text.new.sink.files.now) _ c.as_str.result.now (c.args.prefix.now ++ ending_of c.args.text) c.in-Ok.file c.new.result.file.0 c.write_text.new.sink.file.0 made.0 (IsMade c.args.plan.now c.args.text) named c.in-Ok.ensures.opens
    (ap (λ (f : FileNo). f.0) c.new.ensures.file) (ap g.F.Files.state c.new.ensures.files) c.write_text.ensures.same.2 (search rules) c.write_text.ensures.same.1 (g.met.F.Files.filled c.write_text.new.sink.files.now c.write_text.new.sink.file.0) made.2 made.1)
    c.write_text.ensures.made

pub returns-clause-front : goal.returns-clause-front
returns-clause-front g c =
    let named : c.as_str.result.now ≡ c.args.prefix.now ++ ending_of c.args.text = search rules in
    let front = c.write_text.ensures.front in
    inr (gives-written (g.F.Files.state c.args.files.now) (g.F.Files.state c.open_sink.new.self) (g.F.Files.state c.new.result.files.now) (g.F.Files.state c.write_text.new.sink.files.now) _ c.as_str.result.now (c.args.prefix.now ++ ending_of c.args.text) c.in-Ok.file c.new.result.file.0 c.write_text.new.sink.file.0 front.0 (IsMadeFront c.args.plan.now c.args.text) named c.in-Ok.ensures.opens
    (ap (λ (f : FileNo). f.0) c.new.ensures.file) (ap g.F.Files.state c.new.ensures.files) c.write_text.ensures.same.2 (search rules) c.write_text.ensures.same.1 (g.met.F.Files.filled c.write_text.new.sink.files.now c.write_text.new.sink.file.0) front.2 front.1)

pub returns-clause-handed : goal.returns-clause-handed
returns-clause-handed g c =
    let named : c.as_str.result.now ≡ c.args.prefix.now ++ ending_of c.args.text = search rules in
    OnOk-of c.write_text.result _
    (hands-written (g.F.Files.state c.args.files.now) (g.F.Files.state c.open_sink.new.self) (g.F.Files.state c.new.result.files.now) (g.F.Files.state c.write_text.new.sink.files.now) _ c.as_str.result.now (c.args.prefix.now ++ ending_of c.args.text) c.in-Ok.file c.new.result.file.0 named c.in-Ok.ensures.names (ap g.F.Files.state c.new.ensures.files) c.write_text.ensures.same.2 (search rules))
