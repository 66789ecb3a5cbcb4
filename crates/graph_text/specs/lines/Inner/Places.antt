-- What the kept fields of a line and the number beside them are.
use Rattle.std.specs.Prelude.{ℕ, Bool, true, false, IsTrue, Option, None, Some}
use Rattle.graph_text.specs.declared.lines.fields.Place.{Place}
use Rattle.graph_text.specs.declared.lines.fields.Place.TheVariants.{Begin, Comment, First, BehindFirst, Second, BehindSecond, Digits, Point, Zeros, BehindThird}
use Rattle.graph_text.specs.declared.lines.fields.Fields.{Fields}
use Rattle.graph_text.specs.lines.Inner.Steps.{digits, point, zeros, Seen, begin, comment, first, behind_first, second, behind_second, third, behind_third}

-- the line that is begun, from its place, the numbers of the first three fields, and that of the field that is begun
abbrev pub seen_by : Place → Option ℕ → Option ℕ → Option ℕ → Option ℕ → Seen
seen_by Begin from to weight number = begin
seen_by Comment from to weight number = comment
seen_by First from to weight number = first number
seen_by BehindFirst from to weight number = behind_first from
seen_by Second from to weight number = second from number
seen_by BehindSecond from to weight number = behind_second from to
seen_by Digits from to weight number = third from to (digits number)
seen_by Point from to weight number = third from to (point weight)
seen_by Zeros from to weight number = third from to (zeros weight)
seen_by BehindThird from to weight number = behind_third from to weight

abbrev pub seen_at : Fields → Option ℕ → Seen
seen_at f number = seen_by f.place f.from f.to f.weight number

-- the same at another place
abbrev pub seen_before : Fields → Place × Option ℕ → Seen
seen_before f at = seen_by at.0 f.from f.to f.weight at.1

-- the place behind a byte that belongs to no number
abbrev pub broken_place : Place → Place
broken_place Begin = First
broken_place Comment = Comment
broken_place First = First
broken_place BehindFirst = Second
broken_place Second = Second
broken_place BehindSecond = Digits
broken_place Digits = Digits
broken_place Point = Digits
broken_place Zeros = Digits
broken_place BehindThird = BehindThird

-- a field stands here whose number is kept beside
abbrev pub has_number : Place → Bool
has_number First = true
has_number Second = true
has_number Digits = true
has_number Begin = false
has_number Comment = false
has_number BehindFirst = false
has_number BehindSecond = false
has_number Point = false
has_number Zeros = false
has_number BehindThird = false

-- only inside a field that may be one there is a number
abbrev pub IsInsideField : Place → Option ℕ → Type 0
IsInsideField place None = Unit {0}
IsInsideField place (Some n) = IsTrue (has_number place)
