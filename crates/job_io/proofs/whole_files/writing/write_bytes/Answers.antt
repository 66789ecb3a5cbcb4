use Rattle.std.proofs.Common.{length, sym, subst}
use Rattle.std.proofs.Math.Seq.{take-length}
use Rattle.std.specs.Io.KnownBytes.{Appends}
use Rattle.job_io.proofs.whole_files.writing.write_bytes.Goals as goal

pub returns-clause-front : goal.returns-clause-front
returns-clause-front g c = (length c.args.bytes.now, subst (Appends _ _) (sym (take-length c.args.bytes.now)) c.in_ok-write_all.ensures.ok)
