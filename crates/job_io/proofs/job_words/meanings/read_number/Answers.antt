-- The number parses, or it is greater than each `u64`.
use Rattle.std.proofs.Common.{◌≡◌, ◌∙◌, sym, true}
use Rattle.job_io.specs.job_words.Meanings.{is_number}
use Rattle.job_io.proofs.job_words.Numbers.{number_is, parsed}
use Rattle.job_io.proofs.job_words.meanings.read_number.Goals as goal

pub returns-then-is_number : goal.returns-then-is_number
returns-then-is_number c =
    let number : is_number c.args.text.now ≡ true = sym c.is_number.ensures ∙ c.if-is_number.true in
    number_is c.args.option c.args.text.now c.unwrap_or.result number
    (c.unwrap_or.ensures ∙ parsed c.args.text.now c.parse.result c.parse.ensures.value.0 number)
