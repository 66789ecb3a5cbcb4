-- The text is not empty, and each of its bytes is a digit.
use Rattle.std.proofs.Common.{◌≡◌, ◌∙◌, ◌==◌, ◌&&◌, ap, length, not, rules, sym, true}
use Rattle.std.proofs.lemmas.Iterator.{YieldsList-from_slice}
use Rattle.std.proofs.lemmas.Iterator.Search.{all_from_yields_List}
use Rattle.std.specs.Char.{is_ascii_digit}
use Rattle.std.specs.List.{list_all}
use Rattle.job_io.proofs.job_words.meanings.is_number.Goals as goal

pub returns-then-not-is_empty : goal.returns-then-not-is_empty
returns-then-not-is_empty c =
    let text = c.args.text.now in
    let some : not (length text == 0) ≡ true = search rules in
    let all : c.all.result ≡ list_all is_ascii_digit text =
    all_from_yields_List is_ascii_digit _ _ _ c.all.ensures.ran (YieldsList-from_slice c.as_bytes.result.now cc) (λ x b q h. search rules)
    ∙ ap (list_all is_ascii_digit) c.as_bytes.ensures.value in
    all ∙ sym (ap (λ b. b && list_all is_ascii_digit text) some)
