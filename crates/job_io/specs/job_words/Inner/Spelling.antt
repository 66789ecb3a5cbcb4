-- Words, spelled by their forms.
use Rattle.std.specs.Prelude.{◌≡◌, ◌==◌, ◌∷◌, ◌++◌, [], Bool, List, codes, map, not, true, false}
use Rattle.std.specs.List.{list_all}
use Rattle.gl_base.specs.Texts.{Text}
use Rattle.job_io.specs.job_words.WordForms.{WordForm, bare, joined, option_name, plain, report}

-- the word of a form
abbrev pub word_of : WordForm → Text
word_of (plain t) = t
word_of report = codes "--report"
word_of (bare o) = option_name o
word_of (joined o v) = option_name o ++ 61 ∷ v

-- a text is not empty and begins with no hyphen
abbrev pub is_text : WordForm → Bool
is_text (plain []) = false
is_text (plain (x ∷ xs)) = not (x == 45)
is_text _ = true

-- the words are those of the forms
pub record Spells (ts : List WordForm) (words : List Text) : Type 0 where
  pub formed : list_all is_text ts ≡ true
  pub spelled : map word_of ts ≡ words
