-- The row of a line: the numbers that its first three fields say.
use Rattle.std.specs.Prelude.{ℕ, ◌+◌, ◌-◌, ◌*◌, ◌==◌, ◌&&◌, not, Bool, true, if◌then◌else◌, List, [], ◌∷◌, fold, min, Option, None, Some}
use Rattle.std.specs.List.{list_all}
use Rattle.std.specs.Char.{is_ascii_digit}
use Rattle.gl_base.specs.declared.limits.TheConstants.{INF}
use Rattle.graph_text.specs.declared.lines.said.Row.{Row}
use Rattle.graph_text.specs.declared.lines.said.Row.TheVariants.{Nothing, One, Two, Three}
use Rattle.graph_text.specs.lines.Lines.{is_empty, is_comment}

-- what the digits say, one after another
abbrev pub value : List ℕ → ℕ
value digits = fold (λ n digit. n * 10 + (digit - 48)) 0 digits

-- the number of a field that is digits alone, and INF where it is above
abbrev pub field_number : List ℕ → Option ℕ
field_number field = if list_all is_ascii_digit field then Some (min (value field) INF) else None

-- what stands before the first point
abbrev pub whole_part : List ℕ → List ℕ
whole_part [] = []
whole_part (byte ∷ field) = if byte == 46 then [] else byte ∷ whole_part field

-- zeros, and one at least
abbrev pub are_zeros : List ℕ → Bool
are_zeros field = not (is_empty field) && list_all (λ byte. byte == 48) field

-- no point, or behind the first one zeros
abbrev pub is_whole : List ℕ → Bool
is_whole [] = true
is_whole (byte ∷ field) = if byte == 46 then are_zeros field else is_whole field

-- the number of a weight: one or more digits, with a point and zeros behind them or not
abbrev pub weight_number : List ℕ → Option ℕ
weight_number field = if not (is_empty (whole_part field)) && is_whole field then field_number (whole_part field) else None

-- the row of two numbers and the fields behind them, of one and those behind it, and of a line
abbrev pub row_third : Option ℕ → Option ℕ → List (List ℕ) → Row
row_third from to [] = Two from to
row_third from to (h ∷ fs) = Three from to (weight_number h)

abbrev pub row_second : Option ℕ → List (List ℕ) → Row
row_second from [] = One from
row_second from (g ∷ fs) = row_third from (field_number g) fs

abbrev pub row_of : List (List ℕ) → Row
row_of [] = Nothing
row_of (f ∷ fs) = if is_comment f then Nothing else row_second (field_number f) fs
