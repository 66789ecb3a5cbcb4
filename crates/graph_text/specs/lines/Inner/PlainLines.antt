-- What plain lines come to.
use Rattle.std.specs.Prelude.{◌≡◌, ℕ, ◌+◌, ◌≤◌, ◌==◌, false, List, ◌∷◌, [], ◌++◌, length, take, drop, fold, Some, None}
use Rattle.std.specs.List.{list_any}
use Rattle.graph_text.specs.declared.lines.plain.Number.{Number}
use Rattle.graph_text.specs.declared.lines.plain.PlainLine.{PlainLine}
use Rattle.graph_text.specs.lines.Inner.Steps.{number_more, Seen, line_more, nothing_begun, row_begun}

-- from this place on stand the digits of the number
pub record IsNumberAt (bytes : List ℕ) (at : ℕ) (n : Number) : Type 0 where
  pub few : n.len ≤ 18
  pub number : fold number_more (Some 0) (take n.len (drop at bytes)) ≡ Some n.value

-- the bytes before this place are of one line, and lead here
pub record IsReadTo (bytes : List ℕ) (at : ℕ) (seen : Seen) : Type 0 where
  pub unended : list_any (λ b. b == 10) (take at bytes) ≡ false
  pub read : fold line_more nothing_begun (take at bytes) ≡ record { seen = seen; before_cr = None }

-- a whole line with this row stands at the front of the bytes
pub record IsLineAt (bytes : List ℕ) (l : PlainLine) : Type 0 where
  pub line : List ℕ
  pub unended : list_any (λ b. b == 10) line ≡ false
  pub within : length line + 1 ≤ length bytes
  pub long : l.len ≡ length line + 1
  pub is : take l.len bytes ≡ line ++ 10 ∷ []
  pub row : row_begun (fold line_more nothing_begun line) ≡ l.row
