use Rattle.std.proofs.Common.{rules}
use Rattle.gl_outside.proofs.Fronts.{Appends-more}
use Rattle.gl_outside.proofs.pieces.write_all.Goals as goal

pub loop-written-preserved : goal.loop-written-preserved
loop-written-preserved g c =
    let held = g.K.Sink.held in
    record {
      inside = search rules;
      front = Appends-more (held c.args.sink.now) (held c.loop-written.sink) (held c.write.new.self) c.loop-written.written c.in_ok-taken.taken c.args.bytes.now c.loop-written.invariant.front c.in_ok-taken.ensures.bytes;
      later = search rules;
      same = search rules;
    }
