-- The form of a word.
use Rattle.std.specs.Prelude.{◌==◌, ◌∷◌, [], ℕ, Bool, List, Option, Some, None, codes, drop, filter_map, if◌then◌else◌, is_some, length, map, not, option_and_then, position, string_bytes, take, String}
use Rattle.std.specs.Str.{bytes_eq}
use Rattle.gl_base.specs.Texts.{Text}
use Rattle.gl_base.specs.declared.usage_faults.Opt.{Opt}
use Rattle.gl_base.specs.declared.usage_faults.Opt.TheVariants.{Number, Vertices, Edges, Weight}

-- the bytes of the words
abbrev pub texts : {Z : Type 0} → List (String Z) → List Text
texts = map string_bytes

-- what a word is by its form: a text, `--report`, `--NAME`, or `--NAME=VALUE`
pub data WordForm : Type 0 where
  plain : Text → WordForm
  report : WordForm
  bare : Opt → WordForm
  joined : Opt → Text → WordForm

-- how an option is written
abbrev pub option_name : Opt → Text
option_name Number = codes "--number"
option_name Vertices = codes "--vertices"
option_name Edges = codes "--edges"
option_name Weight = codes "--weight"

-- what follows the beginning `front`
abbrev pub after_front : Text → Text → Option Text
after_front front word =
    if bytes_eq (take (length front) word) front then Some (drop (length front) word) else None

-- an option, by what follows its name: nothing, or `=` (61) and at least one byte
abbrev pub option_form : Opt → Text → Option WordForm
option_form o [] = Some (bare o)
option_form o (c ∷ []) = None
option_form o (c ∷ x ∷ xs) = if c == 61 then Some (joined o (x ∷ xs)) else None

abbrev pub option_at : Opt → Text → Option WordForm
option_at o word = option_and_then (option_form o) (after_front (option_name o) word)

abbrev pub or_else : Option WordForm → Option WordForm → Option WordForm
or_else None other = other
or_else (Some t) other = Some t

abbrev pub any_option : Text → Option WordForm
any_option word = or_else (option_at Number word) (or_else (option_at Vertices word)
    (or_else (option_at Edges word) (option_at Weight word)))

-- a word that begins with a hyphen is the flag or an option
abbrev pub dashed_form : Text → Option WordForm
dashed_form word =
    if bytes_eq word (codes "--report") then Some report else any_option word

-- what the word is; the empty word is none
abbrev pub word_form : Text → Option WordForm
word_form [] = None
word_form (x ∷ xs) = if x == 45 then dashed_form (x ∷ xs) else Some (plain (x ∷ xs))

-- the word has the form of a word
abbrev pub is_formed : Text → Bool
is_formed word = is_some (word_form word)

-- the place of the first word that has not
abbrev pub first_unformed : List Text → Option ℕ
first_unformed = position (λ word. not (is_formed word))

abbrev pub word_forms : List Text → List WordForm
word_forms = filter_map word_form
