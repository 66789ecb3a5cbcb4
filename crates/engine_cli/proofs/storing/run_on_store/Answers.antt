use Rattle.std.proofs.Common.{ap, rules}
use Rattle.gl_outside.specs.declared.files.FileNo.{FileNo}
use Rattle.job_io.proofs.job_stores.DisksUsed.{used-at-end}
use Rattle.engine_cli.proofs.StoreUsed.{refused-at-end, run-at-end, why-unopened}
use Rattle.engine_cli.proofs.storing.run_on_store.Goals as goal

pub returns-clause-used : goal.returns-clause-used
returns-clause-used g c =
    used-at-end (g.F.Files.state c.args.files.now) (g.F.Files.state c.open_disk.new.self) (g.F.Files.state c.new.result.files.now) (g.F.Files.state c.run_on_disk-disk.result.files.now) _ c.args.name.now c.in-Ok.file c.new.result.file.0
    c.in-Ok.ensures.opens (ap (λ (f : FileNo). f.0) c.new.ensures.file) (ap g.F.Files.state c.new.ensures.files) c.run_on_disk-disk.ensures.same.2 (search rules) c.in-Ok.ensures.names c.in-Ok.ensures.later c.run_on_disk-disk.ensures.later

pub returns-clause-run : goal.returns-clause-run
returns-clause-run g c =
    run-at-end (g.F.Files.state c.args.files.now) (g.F.Files.state c.open_disk.new.self) (g.F.Files.state c.new.result.files.now) (g.F.Files.state c.run_on_disk-disk.result.files.now) _ c.args.name.now c.in-Ok.file c.new.result.file.0 c.run_on_disk-disk.result.file.0
    c.in-Ok.ensures.opens (ap (λ (f : FileNo). f.0) c.new.ensures.file) (ap g.F.Files.state c.new.ensures.files) c.run_on_disk-disk.ensures.same.2 c.run_on_disk-disk.ensures.same.1 (returns-clause-used g c) (search rules) g.F.Files.disks_observable c.args.resumed c.args.input.now
    c.in-Ok.ensures.later c.run_on_disk-disk.new.made c.run_on_disk-disk.ensures.run c.run_on_disk-disk.ensures.fault

pub returns-clause-refused : goal.returns-clause-refused
returns-clause-refused g c =
    refused-at-end (g.F.Files.state c.args.files.now) (g.F.Files.state c.open_disk.new.self) (g.F.Files.state c.new.result.files.now) (g.F.Files.state c.run_on_disk-disk.result.files.now) _ c.args.name.now c.in-Ok.file c.new.result.file.0 c.run_on_disk-disk.result.file.0
    c.in-Ok.ensures.opens (ap (λ (f : FileNo). f.0) c.new.ensures.file) (ap g.F.Files.state c.new.ensures.files) c.run_on_disk-disk.ensures.same.2 c.run_on_disk-disk.ensures.same.1 (returns-clause-used g c) (search rules) g.F.Files.disks_observable c.args.resumed c.args.input.now
    c.in-Ok.ensures.later c.run_on_disk-disk.new.made c.run_on_disk-disk.ensures.refused

pub returns-in-Err-clause-refused : goal.returns-in-Err-clause-refused
returns-in-Err-clause-refused g c =
    rw c.not_opened.ensures
    (why-unopened g.F.Files.disks_observable c.args.resumed (g.F.Files.state c.args.files.now) (g.F.Files.state c.open_disk.new.self) c.args.name.now c.args.input.now c.in-Err.fault c.in-Err.ensures.opens c.in-Err.ensures.failed)
