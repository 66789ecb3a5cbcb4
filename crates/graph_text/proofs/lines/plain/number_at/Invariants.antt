use Rattle.std.proofs.Common.{◌≡◌, take, drop, fold, Some}
use Rattle.graph_text.specs.lines.Inner.Steps.{number_more}
use Rattle.graph_text.proofs.lines.plain.number_at.Given as goal

abbrev pub invariant-loop-len : goal.invariant-loop-len
invariant-loop-len l = fold number_more (Some 0) (take l.len (drop l.at l.bytes)) ≡ Some l.value
