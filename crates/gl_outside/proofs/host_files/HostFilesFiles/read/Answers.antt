use Rattle.std.proofs.Common.{◌<◌, ℕ, List, Option, None, length, rules}
use Rattle.gl_outside.specs.Inner.Laws.{constant}
use Rattle.gl_outside.proofs.HostFrames.{changes_at, consumes_untold, number_inside, reads_host}
use Rattle.gl_outside.proofs.host_files.HostFilesFiles.read.Goals as goal

pub returns-in-Ok-clause-bytes : goal.returns-in-Ok-clause-bytes
returns-in-Ok-clause-bytes g c =
    consumes_untold _ _ _ _ c.in-Ok.count (constant {Y = Option (List ℕ)} None _ c.args.file.0) (constant {Y = Option (List ℕ)} None _ c.args.file.0)

pub returns-in-Ok-clause-frame : goal.returns-in-Ok-clause-frame
returns-in-Ok-clause-frame g c = reads_host c.args.self.now _ c.args.file.0 c.read.new.self (search rules) (search rules) (search rules) (search rules) (search rules)

pub returns-in-Err-clause-frame : goal.returns-in-Err-clause-frame
returns-in-Err-clause-frame g c = reads_host c.args.self.now _ c.args.file.0 c.read.new.self (search rules) (search rules) (search rules) (search rules) (search rules)

pub returns-in-Ok-clause-from_system : goal.returns-in-Ok-clause-from_system
returns-in-Ok-clause-from_system g c =
    let inside : c.args.file.0 < length c.args.self.now.sources = number_inside _ c.args.self.now.sources c.args.file.0 c.requires in
    changes_at c.args.self.now.sources _ c.args.file.0 c.index_mut.result.now c.read.new.self _ inside (search rules) (search rules) (search rules)

pub returns-in-Err-clause-from_system : goal.returns-in-Err-clause-from_system
returns-in-Err-clause-from_system g c =
    let inside : c.args.file.0 < length c.args.self.now.sources = number_inside _ c.args.self.now.sources c.args.file.0 c.requires in
    changes_at c.args.self.now.sources _ c.args.file.0 c.index_mut.result.now c.read.new.self _ inside (search rules) (search rules) (search rules)
