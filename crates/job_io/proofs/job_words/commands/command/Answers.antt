-- The command is made up argument by argument.
use Rattle.std.proofs.Common.{ap₂, ◌∙◌}
use Rattle.clap.specs.Words.{with_rule}
use Rattle.std.proofs.lemmas.Result.{IfOk-weaker}
use Rattle.job_io.proofs.job_words.commands.command.Goals as goal

pub returns : goal.returns
returns c = IfOk-weaker c.arg-7.result _ _ (λ r h. h.shape c.option-4.ensures.local ∙ ap₂ with_rule
    (c.in_ok-arg-6.ensures.shape c.option-3.ensures.local ∙ ap₂ with_rule
    (c.in_ok-arg-5.ensures.shape c.option-2.ensures.local ∙ ap₂ with_rule
    (c.in_ok-arg-4.ensures.shape c.option.ensures.local ∙ ap₂ with_rule
    (c.in_ok-arg-3.ensures.shape c.flag.ensures.local ∙ ap₂ with_rule
    (c.in_ok-arg-2.ensures.shape c.word-2.ensures.local ∙ ap₂ with_rule
    (c.in_ok-arg.ensures.shape c.word.ensures.local ∙ ap₂ with_rule c.bare_command.ensures
    c.word.ensures.rule) c.word-2.ensures.rule) c.flag.ensures.rule) c.option.ensures.rule)
    c.option-2.ensures.rule) c.option-3.ensures.rule) c.option-4.ensures.rule) c.arg-7.ensures
