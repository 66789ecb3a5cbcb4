use Rattle.std.proofs.Common.{◌<◌, length, rules}
use Rattle.gl_outside.proofs.HostFrames.{changes_at, changes_host, number_inside}
use Rattle.gl_outside.proofs.host_files.HostFilesFiles.sync.Goals as goal

pub returns-in-Ok-clause-frame : goal.returns-in-Ok-clause-frame
returns-in-Ok-clause-frame g c = changes_host c.args.self.now _ c.args.file.0 c.sync.new.self (search rules) (search rules) (search rules) (search rules) (search rules)

pub returns-in-Ok-clause-of_its_file : goal.returns-in-Ok-clause-of_its_file
returns-in-Ok-clause-of_its_file g c =
    let inside : c.args.file.0 < length c.args.self.now.disks = number_inside _ c.args.self.now.disks c.args.file.0 c.requires in
    changes_at c.args.self.now.disks _ c.args.file.0 c.index_mut.result.now c.sync.new.self _ inside (search rules) (search rules) tt

pub returns-in-Err-clause-frame : goal.returns-in-Err-clause-frame
returns-in-Err-clause-frame g c = changes_host c.args.self.now _ c.args.file.0 c.sync.new.self (search rules) (search rules) (search rules) (search rules) (search rules)

pub returns-in-Err-clause-of_its_file : goal.returns-in-Err-clause-of_its_file
returns-in-Err-clause-of_its_file g c =
    let inside : c.args.file.0 < length c.args.self.now.disks = number_inside _ c.args.self.now.disks c.args.file.0 c.requires in
    changes_at c.args.self.now.disks _ c.args.file.0 c.index_mut.result.now c.sync.new.self _ inside (search rules) (search rules) tt
