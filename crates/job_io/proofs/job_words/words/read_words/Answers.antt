-- The form, the line and the meaning come to the whole.
use Rattle.std.proofs.Common.{◌≡◌, ◌∙◌, None, Err, Option, Some, List, ap, sym}
use Rattle.std.proofs.lemmas.Result.{IfOk-weaker}
use Rattle.gl_base.specs.declared.memory.OrNoMemory.TheVariants.{Fault}
use Rattle.job_io.specs.job_words.CommandLine.{command_line_of, formed_means, line_means}
use Rattle.job_io.specs.job_words.Lines.{Sayings, line_of}
use Rattle.job_io.specs.job_words.Inner.Views.{line_view}
use Rattle.gl_base.specs.Texts.{Text}
use Rattle.job_io.specs.job_words.WordForms.{texts, word_forms, first_unformed}
use Rattle.job_io.proofs.job_words.Spelling.{spells}
use Rattle.job_io.proofs.job_words.words.read_words.Goals as goal

means : (words : List Text) (o : Option Sayings) → first_unformed words ≡ None → line_of (word_forms words) ≡ o → command_line_of words ≡ line_means o
means words o formed said = ap (λ place. formed_means place words) formed ∙ ap line_means said

pub returns-in-Ok-clause-asked : goal.returns-in-Ok-clause-asked
returns-in-Ok-clause-asked c =
    let words = texts c.args.words.now in
    let formed : first_unformed words ≡ None = sym c.first_unformed.ensures ∙ c.in_default.is in
    IfOk-weaker c.read_meaning.result _ _ (λ w h. means words (Some (line_view c.in-Ok.line)) formed (c.in-Ok.ensures.ok (word_forms words) (spells words formed)) ∙ h)
    c.read_meaning.ensures.asked

pub returns-in-Ok-clause-fault : goal.returns-in-Ok-clause-fault
returns-in-Ok-clause-fault c = λ f is.
    let words = texts c.args.words.now in
    let formed : first_unformed words ≡ None = sym c.first_unformed.ensures ∙ c.in_default.is in
    means words (Some (line_view c.in-Ok.line)) formed (c.in-Ok.ensures.ok (word_forms words) (spells words formed)) ∙ c.read_meaning.ensures.fault f is

pub returns-in-Err-clause-fault : goal.returns-in-Err-clause-fault
returns-in-Err-clause-fault c = λ f is.
    let words = texts c.args.words.now in
    let formed : first_unformed words ≡ None = sym c.first_unformed.ensures ∙ c.in_default.is in
    let same : c.in-Err.reading ≡ Fault f = cc in
    ap (λ place. formed_means place words) formed ∙ c.read_line.ensures.fault (word_forms words) f (spells words formed) (c.in-Err.is ∙ ap Err same)
