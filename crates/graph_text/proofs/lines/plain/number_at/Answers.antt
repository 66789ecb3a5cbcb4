use Rattle.std.proofs.Common.{◌∙◌, ap, sym, refl, Some, arith}
use Rattle.graph_text.proofs.lines.PlainTexts.{number_next}
use Rattle.graph_text.proofs.lines.plain.number_at.Goals as goal

pub loop-len-preserved : goal.loop-len-preserved
loop-len-preserved c =
    number_next c.args.bytes.now c.args.at c.loop-len.len c.loop-len.value _ _ (omega arith) refl (sym c.is_ascii_digit.ensures.value ∙ c.if-not-is_ascii_digit.false) refl c.loop-len.invariant
    ∙ ap Some (sym c.with_digit-value.ensures)
