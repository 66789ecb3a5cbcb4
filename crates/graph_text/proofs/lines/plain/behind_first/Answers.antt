use Rattle.std.proofs.Common.{◌+◌, Some, refl, arith}
use Rattle.graph_text.specs.lines.Inner.Steps.{behind_first, second}
use Rattle.graph_text.proofs.lines.PlainTexts.{second_field, reads_number, reads_blank, ends_line}
use Rattle.graph_text.proofs.lines.plain.behind_first.Goals as goal

pub returns-in-10 : goal.returns-in-10
returns-in-10 c =
    let to = c.number_at-to.result in
    let read = reads_number c.args.bytes.now c.args.at to (behind_first (Some c.args.from)) (second (Some c.args.from)) (second_field (Some c.args.from)) c.requires.read c.number_at-to.ensures (omega arith) (omega arith) in
    ends_line c.args.bytes.now (c.args.at + to.len) _ _ read (omega arith) c.in-10.is refl refl

pub behind_second-requires-clause-read : goal.behind_second-requires-clause-read
behind_second-requires-clause-read c =
    let to = c.number_at-to.result in
    let read = reads_number c.args.bytes.now c.args.at to (behind_first (Some c.args.from)) (second (Some c.args.from)) (second_field (Some c.args.from)) c.requires.read c.number_at-to.ensures (omega arith) (omega arith) in
    reads_blank c.args.bytes.now (c.args.at + to.len) _ read (omega arith) c.in-32.is
