-- Lines, read byte by byte.
use Rattle.std.specs.Prelude.{ℕ, ◌+◌, ◌-◌, ◌*◌, ◌==◌, if◌then◌else◌, List, length, take, min, nat_le, Option, None, Some, unwrap_or, Result, Ok, Err}
use Rattle.std.specs.Char.{is_ascii_digit}
use Rattle.gl_base.specs.declared.limits.TheConstants.{INF, MAX_TEXT_BYTES}
use Rattle.gl_base.specs.declared.text_faults.TextKind.TheVariants.{TooLong}
use Rattle.graph_text.specs.declared.lines.said.Row.{Row}
use Rattle.graph_text.specs.declared.lines.said.Row.TheVariants.{Nothing, One, Two, Three}
use Rattle.graph_text.specs.declared.lines.said.Said.{Said}
use Rattle.graph_text.specs.declared.lines.said.Ending.TheVariants.{Fault}
use Rattle.graph_text.specs.lines.Lines.{is_blank}
use Rattle.gl_base.specs.Results.{and_then}
use Rattle.graph_text.specs.lines.Found.{run, Kept, Found, found_with, collect, nothing_kept, whole}

-- a number with one digit more, up to INF
abbrev pub grown : ℕ → ℕ → ℕ
grown n digit = min (n * 10 + digit) INF

-- a number with one byte more
abbrev pub number_more : Option ℕ → ℕ → Option ℕ
number_more None byte = None
number_more (Some n) byte = if is_ascii_digit byte then Some (grown n (byte - 48)) else None

-- a weight that is begun: up to the point, with it, and with zeros behind it
pub data Weight : Type 0 where
  digits : Option ℕ → Weight
  point : Option ℕ → Weight
  zeros : Option ℕ → Weight

-- a weight with one byte more
abbrev pub weight_more : Weight → ℕ → Weight
weight_more (digits n) byte = if byte == 46 then point n else digits (number_more n byte)
weight_more (point n) byte = if byte == 48 then zeros n else digits None
weight_more (zeros n) byte = if byte == 48 then zeros n else digits None

-- the number of a weight that is read
abbrev pub weight_end : Weight → Option ℕ
weight_end (digits n) = n
weight_end (point n) = None
weight_end (zeros n) = n

-- a line that is begun: the fields up to the third, of which the last is begun or ended
pub data Seen : Type 0 where
  begin : Seen
  comment : Seen
  first : Option ℕ → Seen
  behind_first : Option ℕ → Seen
  second : Option ℕ → Option ℕ → Seen
  behind_second : Option ℕ → Option ℕ → Seen
  third : Option ℕ → Option ℕ → Weight → Seen
  behind_third : Option ℕ → Option ℕ → Option ℕ → Seen

-- a line that is begun, with one byte more
abbrev pub seen_more : Seen → ℕ → Seen
seen_more begin byte = if is_blank byte then begin else (if byte == 35 then comment else first (number_more (Some 0) byte))
seen_more comment byte = comment
seen_more (first n) byte = if is_blank byte then behind_first n else first (number_more n byte)
seen_more (behind_first n) byte = if is_blank byte then behind_first n else second n (number_more (Some 0) byte)
seen_more (second m n) byte = if is_blank byte then behind_second m n else second m (number_more n byte)
seen_more (behind_second m n) byte = if is_blank byte then behind_second m n else third m n (digits (number_more (Some 0) byte))
seen_more (third m n w) byte = if is_blank byte then behind_third m n (weight_end w) else third m n (weight_more w byte)
seen_more (behind_third m n w) byte = behind_third m n w

-- the row of a line that is read
abbrev pub row_seen : Seen → Row
row_seen begin = Nothing
row_seen comment = Nothing
row_seen (first n) = One n
row_seen (behind_first n) = One n
row_seen (second m n) = Two m n
row_seen (behind_second m n) = Two m n
row_seen (third m n w) = Three m n (weight_end w)
row_seen (behind_third m n w) = Three m n w

-- a line that is begun, and the same before a CR that is the last byte
pub record Begun : Type 0 where
  pub seen : Seen
  pub before_cr : Option Seen

abbrev pub nothing_begun : Begun
nothing_begun = record { seen = begin; before_cr = None }

-- a byte of a line
abbrev pub line_more : Begun → ℕ → Begun
line_more b byte = record { seen = seen_more b.seen byte; before_cr = if byte == 13 then Some b.seen else None }

-- the row, without a CR at the end of the line
abbrev pub row_begun : Begun → Row
row_begun b = row_seen (unwrap_or b.before_cr b.seen)

-- what a text is read to: whole lines, and one that is begun
pub record ReadText (X : Type 0) : Type 0 where
  pub kept : Kept X
  pub begun : Begun

abbrev pub nothing_read : {X : Type 0} → ReadText X
nothing_read = record { kept = nothing_kept; begun = nothing_begun }

-- the line ends
abbrev pub line_end : {X : Type 0} → ℕ → (Row → Said X) → ReadText X → Result (Kept X) (Found X)
line_end most says s = collect most s.kept (says (row_begun s.begun))

-- a byte: LF ends the line
abbrev pub byte_step : {X : Type 0} → ℕ → (Row → Said X) → ReadText X → ℕ → Result (ReadText X) (Found X)
byte_step most says s byte =
    if byte == 10 then and_then (line_end most says s) (λ kept. Ok (record { kept = kept; begun = nothing_begun }))
    else Ok (record { kept = s.kept; begun = line_more s.begun byte })

-- what is found in a text that goes on past the limit
abbrev pub past : {X : Type 0} → Result (ReadText X) (Found X) → Found X
past (Ok s) = found_with s.kept (Some (Fault s.kept.line TooLong))
past (Err found) = found

-- what is found in a text that has a limit
abbrev pub found_within : {X : Type 0} → ℕ → ℕ → (Row → Said X) → List ℕ → Found X
found_within limit most says bytes =
    if nat_le (length bytes) limit then whole (and_then (run (byte_step most says) nothing_read bytes) (line_end most says))
    else past (run (byte_step most says) nothing_read (take limit bytes))

-- what is found in a text, byte by byte
unfoldable pub found_by_bytes : {X : Type 0} → ℕ → (Row → Said X) → List ℕ → Found X
found_by_bytes most says bytes = found_within MAX_TEXT_BYTES most says bytes
