-- The words as one line: two texts, the flag, and four options with a value each.
use Rattle.std.specs.Prelude.{◌∷◌, ◌&&◌, [], Bool, List, Option, Some, None, false, if◌then◌else◌, not, option_and_then, option_map, true}
use Rattle.std.specs.List.{list_any}
use Rattle.gl_base.specs.declared.usage_faults.Opt.{Opt}
use Rattle.gl_base.specs.declared.usage_faults.Opt.TheVariants.{Number, Vertices, Edges, Weight}
use Rattle.gl_base.specs.Texts.{Text}
use Rattle.job_io.specs.job_words.WordForms.{WordForm, plain, report, bare, joined}

-- a part of the line
pub data LinePart : Type 0 where
  alone : Text → LinePart
  flagged : LinePart
  valued : Opt → Text → LinePart

-- an option without `=` takes the next word, which must be a text
abbrev pub parts_of : List WordForm → Option (List LinePart)
parts_of [] = Some []
parts_of (plain t ∷ ts) = option_map (λ ps. alone t ∷ ps) (parts_of ts)
parts_of (report ∷ ts) = option_map (λ ps. flagged ∷ ps) (parts_of ts)
parts_of (joined o v ∷ ts) = option_map (λ ps. valued o v ∷ ps) (parts_of ts)
parts_of (bare o ∷ plain v ∷ ts) = option_map (λ ps. valued o v ∷ ps) (parts_of ts)
parts_of (bare o ∷ _) = None

abbrev pub same_option : Opt → Opt → Bool
same_option Number Number = true
same_option Vertices Vertices = true
same_option Edges Edges = true
same_option Weight Weight = true
same_option _ _ = false

-- the second part is the same option or the flag again
abbrev pub repeats : LinePart → LinePart → Bool
repeats flagged flagged = true
repeats (valued o v) (valued p w) = same_option o p
repeats _ _ = false

-- no option and no flag stands twice
abbrev pub stands_once : List LinePart → Bool
stands_once [] = true
stands_once (p ∷ ps) = not (list_any (repeats p) ps) && stands_once ps

-- the texts that stand alone
abbrev pub words_in : List LinePart → List Text
words_in [] = []
words_in (alone t ∷ ps) = t ∷ words_in ps
words_in (_ ∷ ps) = words_in ps

-- the flag stands there
abbrev pub has_flag : List LinePart → Bool
has_flag [] = false
has_flag (flagged ∷ ps) = true
has_flag (_ ∷ ps) = has_flag ps

-- the value of an option, where it stands there
abbrev pub value_in : Opt → List LinePart → Option Text
value_in o [] = None
value_in o (valued p v ∷ ps) = if same_option o p then Some v else value_in o ps
value_in o (_ ∷ ps) = value_in o ps

-- what a line says
pub record Sayings : Type 0 where
  pub verb : Text
  pub file : Text
  pub report : Bool
  pub number : Option Text
  pub vertices : Option Text
  pub edges : Option Text
  pub weight : Option Text

-- exactly two texts stand alone, the verb and the file
abbrev pub line_with : List Text → List LinePart → Option Sayings
line_with (verb ∷ file ∷ []) ps = Some (record {
  verb = verb;
  file = file;
  report = has_flag ps;
  number = value_in Number ps;
  vertices = value_in Vertices ps;
  edges = value_in Edges ps;
  weight = value_in Weight ps;
})
line_with _ ps = None

abbrev pub line_of_parts : List LinePart → Option Sayings
line_of_parts ps = if stands_once ps then line_with (words_in ps) ps else None

-- what the words say as a line, where they are one
abbrev pub line_of : List WordForm → Option Sayings
line_of ts = option_and_then line_of_parts (parts_of ts)
