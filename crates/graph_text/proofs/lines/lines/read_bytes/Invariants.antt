use Rattle.std.proofs.Common.{◌+◌, ◌≤◌}
use Rattle.gl_base.specs.declared.limits.TheConstants.{MAX_TEXT_BYTES}
use Rattle.graph_text.specs.lines.Inner.Texts.{read_text, IsBetween}
use Rattle.graph_text.proofs.lines.LinePieces.{SoFar, Leads}
use Rattle.graph_text.proofs.lines.lines.read_bytes.Given as goal

abbrev pub invariant-reading : goal.invariant-reading
invariant-reading g l = record {
  text : SoFar (g.S.Source.left l.fn.source) (g.S.Source.left l.source) l._turn
      (Leads g.X.LineItem.MOST (g.X.LineItem.says l.weighted) l.room (read_text l.lines l.number));
  line : l.lines.line + l.room ≤ MAX_TEXT_BYTES + 1;
  between : IsBetween l.lines l.number;
  later : g.S.Source.faults l.fn.source ≤ g.S.Source.faults l.source;
  same : g.S.Source.same l.fn.source l.source;
}
