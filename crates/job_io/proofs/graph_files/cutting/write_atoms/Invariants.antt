use Rattle.std.proofs.Common.{◌≤◌, ◌+◌}
use Rattle.job_io.specs.graph_files.Inner.GoingOn.{GoesOnWriting}
use Rattle.job_io.proofs.graph_files.cutting.write_atoms.Given as goal

abbrev pub invariant-loop-a : goal.invariant-loop-a
invariant-loop-a g l = record {
  goes : GoesOnWriting l.fn.prefix l.fn.lines (l.a + 1) (g.F.Files.state l.fn.files) (g.F.Files.state l.files);
  later : (g.F.Files.state l.fn.files).sinks.faults ≤ (g.F.Files.state l.files).sinks.faults;
}
