use Rattle.std.proofs.Common.{rules}
use Rattle.gl_outside.proofs.HostFrames.{opens_host_by}
use Rattle.gl_outside.proofs.host_files.HostFilesFiles.open_sink.Goals as goal

pub returns-clause-opens : goal.returns-clause-opens
returns-clause-opens g c = opens_host_by c.args.self.now _ c.args.name.now c.open_file.result (search rules) (search rules) (search rules) (search rules) (search rules)
