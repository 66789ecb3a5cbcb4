-- The command, as `clap` sees it.
use Rattle.std.specs.Prelude.{Some, codes, true}
use Rattle.clap.specs.Simple.{App, on_top}
use Rattle.clap.specs.Words.{Rule, Text, new_app, new_rule, with_rule}
use Rattle.clap.specs.declared.builder.action.ArgAction.TheVariants.{Set, SetTrue}

-- a word that is needed
abbrev pub word_rule : Text → Rule
word_rule id = record (new_rule id) { required = true }

abbrev pub flag_rule : Text → Rule
flag_rule id = record (new_rule id) { long = Some id; action = Some SetTrue }

-- an option with one value
abbrev pub option_rule : Text → Rule
option_rule id = record (new_rule id) { long = Some id; action = Some Set }

abbrev pub bare_glab : App
bare_glab = on_top (λ s. record s {
  no_binary_name = true;
  disable_help_flag = true;
  disable_version_flag = true;
}) (new_app (codes "glab"))

-- two words, the flag and four options
abbrev pub glab : App
glab = with_rule (with_rule (with_rule (with_rule (with_rule (with_rule (with_rule bare_glab
    (word_rule (codes "verb"))) (word_rule (codes "file"))) (flag_rule (codes "report")))
    (option_rule (codes "number"))) (option_rule (codes "vertices")))
    (option_rule (codes "edges"))) (option_rule (codes "weight"))
