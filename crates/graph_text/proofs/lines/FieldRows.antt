-- The row of a line, where each field is read byte by byte.
use Rattle.std.specs.Prelude.{ℕ, if◌then◌else◌, List, [], ◌∷◌, fold, Option, None, Some}
use Rattle.graph_text.specs.declared.lines.said.Row.{Row}
use Rattle.graph_text.specs.declared.lines.said.Row.TheVariants.{Nothing, One, Two, Three}
use Rattle.graph_text.specs.lines.Lines.{is_comment}
use Rattle.graph_text.specs.lines.Inner.Steps.{number_more, digits, weight_more, weight_end}

-- the number of a field
abbrev pub field_folded : List ℕ → Option ℕ
field_folded field = fold number_more (Some 0) field

-- the same of a weight
abbrev pub weight_folded : List ℕ → Option ℕ
weight_folded [] = None
weight_folded (byte ∷ field) = weight_end (fold weight_more (digits (number_more (Some 0) byte)) field)

-- the row
abbrev pub third_folded : Option ℕ → Option ℕ → List (List ℕ) → Row
third_folded from to [] = Two from to
third_folded from to (h ∷ fs) = Three from to (weight_folded h)

abbrev pub second_folded : Option ℕ → List (List ℕ) → Row
second_folded from [] = One from
second_folded from (g ∷ fs) = third_folded from (field_folded g) fs

abbrev pub row_folded : List (List ℕ) → Row
row_folded [] = Nothing
row_folded (f ∷ fs) = if is_comment f then Nothing else second_folded (field_folded f) fs
