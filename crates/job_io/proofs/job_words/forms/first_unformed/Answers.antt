-- The chain gives the words one after another, and the closure tests each.
use Rattle.std.proofs.Common.{◌∙◌, not, rules, string_bytes, sym}
use Rattle.std.proofs.lemmas.Iterator.{YieldsList-from_slice}
use Rattle.std.proofs.lemmas.Iterator.Search.{position_from_yields_List}
use Rattle.job_io.specs.job_words.WordForms.{is_formed}
use Rattle.job_io.proofs.job_words.Spelling.{position-map}
use Rattle.job_io.proofs.job_words.forms.first_unformed.Goals as goal

pub returns : goal.returns
returns c =
    position_from_yields_List (λ w. not (is_formed (string_bytes w))) _ _ _ c.position.ensures.ran
    (YieldsList-from_slice c.args.words.now cc) (λ x b q h. search rules)
    ∙ sym (position-map (λ t. not (is_formed t)) string_bytes c.args.words.now)
