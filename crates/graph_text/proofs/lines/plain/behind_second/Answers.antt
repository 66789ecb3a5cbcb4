use Rattle.std.proofs.Common.{◌+◌, Some, refl, arith}
use Rattle.graph_text.specs.lines.Inner.Steps.{third, digits, behind_second}
use Rattle.graph_text.proofs.lines.PlainTexts.{third_field, reads_number, ends_line}
use Rattle.graph_text.proofs.lines.plain.behind_second.Goals as goal

pub returns : goal.returns
returns c =
    let weight = c.number_at-weight.result in
    let read = reads_number c.args.bytes.now c.args.at weight (behind_second (Some c.args.from) (Some c.args.to)) (λ w. third (Some c.args.from) (Some c.args.to) (digits w))
    (third_field (Some c.args.from) (Some c.args.to)) c.requires.read c.number_at-weight.ensures (omega arith) (omega arith) in
    ends_line c.args.bytes.now (c.args.at + weight.len) _ _ read (omega arith) c.if-bytes-at-ne10.false refl refl
