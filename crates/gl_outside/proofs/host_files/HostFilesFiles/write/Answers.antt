use Rattle.std.proofs.Common.{◌<◌, length, rules}
use Rattle.gl_outside.proofs.HostFrames.{changes_at, number_inside, writes_host}
use Rattle.gl_outside.proofs.host_files.HostFilesFiles.write.Goals as goal

pub returns-in-Ok-clause-frame : goal.returns-in-Ok-clause-frame
returns-in-Ok-clause-frame g c = writes_host c.args.self.now _ c.args.file.0 c.write_through.new.writer (search rules) (search rules) (search rules) (search rules) (search rules)

pub returns-in_default-clause-frame : goal.returns-in_default-clause-frame
returns-in_default-clause-frame g c = writes_host c.args.self.now _ c.args.file.0 c.write_through.new.writer (search rules) (search rules) (search rules) (search rules) (search rules)

pub returns-in-Ok-clause-to_system : goal.returns-in-Ok-clause-to_system
returns-in-Ok-clause-to_system g c =
    let inside : c.args.file.0 < length c.args.self.now.sinks = number_inside _ c.args.self.now.sinks c.args.file.0 c.requires in
    changes_at c.args.self.now.sinks _ c.args.file.0 c.index_mut.result.now c.write_through.new.writer _ inside (search rules) (search rules) (search rules)

pub returns-in_default-clause-to_system : goal.returns-in_default-clause-to_system
returns-in_default-clause-to_system g c =
    let inside : c.args.file.0 < length c.args.self.now.sinks = number_inside _ c.args.self.now.sinks c.args.file.0 c.requires in
    changes_at c.args.self.now.sinks _ c.args.file.0 c.index_mut.result.now c.write_through.new.writer _ inside (search rules) (search rules) (search rules)
