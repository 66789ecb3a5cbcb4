use Rattle.std.proofs.Common.{ap, rules}
use Rattle.gl_outside.specs.declared.files.FileNo.{FileNo}
use Rattle.job_io.specs.job_stores.NewStores.{IsNewStore}
use Rattle.job_io.proofs.job_stores.DisksUsed.{disk_opened, filled-at-end, made-at-end, refused-at-end, unused-disk, unused-filled, used-at-end, why-unopened}
use Rattle.job_io.proofs.job_stores.making.make_store.Goals as goal

pub new-requires : goal.new-requires
new-requires g c = (disk_opened (g.F.Files.state c.args.files.now) (g.F.Files.state c.open_disk.new.self) c.args.name.now c.in-Ok.file c.in-Ok.ensures.opens).0

pub returns-clause-used : goal.returns-clause-used
returns-clause-used g c =
    used-at-end (g.F.Files.state c.args.files.now) (g.F.Files.state c.open_disk.new.self) (g.F.Files.state c.new.result.files.now) (g.F.Files.state c.make_on.new.disk.files.now) _ c.args.name.now c.in-Ok.file c.new.result.file.0
    c.in-Ok.ensures.opens (ap (λ (f : FileNo). f.0) c.new.ensures.file) (ap g.F.Files.state c.new.ensures.files) c.make_on.ensures.same.2 (search rules) c.in-Ok.ensures.names c.in-Ok.ensures.later c.make_on.ensures.later

pub returns-clause-kept : goal.returns-clause-kept
returns-clause-kept g c =
    filled-at-end (g.F.Files.state c.args.files.now) (g.F.Files.state c.open_disk.new.self) (g.F.Files.state c.new.result.files.now) (g.F.Files.state c.make_on.new.disk.files.now) _ c.args.name.now c.in-Ok.file c.new.result.file.0 c.make_on.new.disk.file.0
    c.in-Ok.ensures.opens (ap (λ (f : FileNo). f.0) c.new.ensures.file) (ap g.F.Files.state c.new.ensures.files) c.make_on.ensures.same.2 c.make_on.ensures.same.1 (returns-clause-used g c) (search rules) g.F.Files.disks_observable c.make_on.ensures.kept

pub returns-clause-made : goal.returns-clause-made
returns-clause-made g c =
    made-at-end (g.F.Files.state c.args.files.now) (g.F.Files.state c.open_disk.new.self) (g.F.Files.state c.new.result.files.now) (g.F.Files.state c.make_on.new.disk.files.now) _ c.args.name.now c.in-Ok.file c.new.result.file.0 c.make_on.new.disk.file.0
    c.in-Ok.ensures.opens (ap (λ (f : FileNo). f.0) c.new.ensures.file) (ap g.F.Files.state c.new.ensures.files) c.make_on.ensures.same.2 c.make_on.ensures.same.1 (returns-clause-used g c) (search rules) c.make_on.result g.F.Files.disks_observable (IsNewStore c.args.header.now) c.make_on.ensures.made

pub returns-clause-fault : goal.returns-clause-fault
returns-clause-fault g c =
    refused-at-end (g.F.Files.state c.args.files.now) (g.F.Files.state c.open_disk.new.self) (g.F.Files.state c.new.result.files.now) (g.F.Files.state c.make_on.new.disk.files.now) _ c.args.name.now c.in-Ok.file c.new.result.file.0 c.make_on.new.disk.file.0
    c.in-Ok.ensures.opens (ap (λ (f : FileNo). f.0) c.new.ensures.file) (ap g.F.Files.state c.new.ensures.files) c.make_on.ensures.same.2 c.make_on.ensures.same.1 (returns-clause-used g c) (search rules) c.make_on.result g.F.Files.disks_observable c.in-Ok.ensures.later c.make_on.ensures.fault

pub returns-in-Err-clause-used : goal.returns-in-Err-clause-used
returns-in-Err-clause-used g c =
    unused-disk (g.F.Files.state c.args.files.now) (g.F.Files.state c.open_disk.new.self) c.args.name.now c.in-Err.fault c.in-Err.ensures.opens c.in-Err.ensures.names c.in-Err.ensures.later

pub returns-in-Err-clause-kept : goal.returns-in-Err-clause-kept
returns-in-Err-clause-kept g c =
    unused-filled g.F.Files.disks_observable (g.F.Files.state c.args.files.now) (g.F.Files.state c.open_disk.new.self) c.args.name.now c.in-Err.fault c.in-Err.ensures.opens

pub returns-in-Err-clause-fault : goal.returns-in-Err-clause-fault
returns-in-Err-clause-fault g c =
    rw c.not_opened.ensures
    (why-unopened g.F.Files.disks_observable (g.F.Files.state c.args.files.now) (g.F.Files.state c.open_disk.new.self) c.args.name.now c.in-Err.fault c.in-Err.ensures.opens c.in-Err.ensures.failed)
