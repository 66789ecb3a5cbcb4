use Rattle.std.proofs.Common.{◌≡◌, ◌+◌, ◌-◌, ◌≤◌, drop, length}
use Rattle.graph_text.specs.lines.Found.{run}
use Rattle.graph_text.specs.lines.Inner.Steps.{byte_step}
use Rattle.graph_text.specs.lines.Inner.Texts.{read_text, IsBetween}
use Rattle.graph_text.proofs.lines.lines.Lines.take_bytes.Given as goal

abbrev pub invariant-loop-at : goal.invariant-loop-at
invariant-loop-at g l = record {
  ran : run (byte_step g.X.LineItem.MOST (g.X.LineItem.says l.weighted)) (read_text l.self l.number) (drop l.at l.bytes)
      ≡ run (byte_step g.X.LineItem.MOST (g.X.LineItem.says l.weighted)) (read_text l.fn.self l.fn.number) l.bytes;
  within : l.at ≤ length l.bytes;
  between : IsBetween l.self l.number;
  line : l.self.line ≤ l.fn.self.line + l.at;
}

abbrev pub decreases-loop-at : goal.decreases-loop-at
decreases-loop-at g l = length l.bytes - l.at
