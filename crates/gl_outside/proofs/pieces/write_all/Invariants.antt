-- The written front was appended.
use Rattle.std.proofs.Common.{length, take, ◌-◌, ◌≤◌}
use Rattle.std.specs.Io.KnownBytes.{Appends}
use Rattle.gl_outside.proofs.pieces.write_all.Given as goal

abbrev pub invariant-loop-written : goal.invariant-loop-written
invariant-loop-written g l =
    let held = g.K.Sink.held in
    record {
      inside : l.written ≤ length l.bytes;
      front : Appends (held l.fn.sink) (held l.sink) (take l.written l.bytes);
      later : g.K.Sink.faults l.fn.sink ≤ g.K.Sink.faults l.sink;
      same : g.K.Sink.same l.fn.sink l.sink;
    }

abbrev pub decreases-loop-written : goal.decreases-loop-written
decreases-loop-written g l = length l.bytes - l.written
