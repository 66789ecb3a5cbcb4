use Rattle.std.proofs.Common.{◌≤◌, map, take}
use Rattle.std.specs.Io.KnownBytes.{Appends}
use Rattle.engine_cli.specs.Notes.{joined}
use Rattle.engine_cli.proofs.notes.write_texts.Given as goal

abbrev pub invariant-loop-text : goal.invariant-loop-text
invariant-loop-text g l = record {
  told : Appends (g.N.Sink.held l.fn.note) (g.N.Sink.held l.note) (joined (take l.text-index (map (λ t. t.now) l.fn.texts)));
  later : g.N.Sink.faults l.fn.note ≤ g.N.Sink.faults l.note;
  same : g.N.Sink.same l.fn.note l.note;
}
