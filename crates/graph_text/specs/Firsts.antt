-- A text is read line by line, up to the first fault.
use Rattle.std.specs.Prelude.{ℕ, ◌+◌, List, [], ◌∷◌, ◌++◌, length, take, nat_lt, nat_le, if◌then◌else◌, Option, None, Some, Result, Ok, Err}
use Rattle.gl_base.specs.Results.{and_then}
use Rattle.gl_base.specs.declared.limits.TheConstants.{MAX_TEXT_BYTES}
use Rattle.gl_base.specs.declared.text_faults.TextFault.{TextFault}
use Rattle.gl_base.specs.declared.text_faults.TextFile.{TextFile}
use Rattle.gl_base.specs.declared.text_faults.TextKind.{TextKind}
use Rattle.gl_base.specs.declared.text_faults.TextKind.TheVariants.{TooMany, TooLong}
use Rattle.graph_text.specs.declared.lines.said.Row.{Row}
use Rattle.graph_text.specs.declared.lines.said.Said.{Said}
use Rattle.graph_text.specs.declared.lines.said.Said.TheVariants.{Passed, Wrong, Late, Item}
use Rattle.graph_text.specs.lines.Lines.{lines, ended_lines, fields}
use Rattle.graph_text.specs.lines.Rows.{row_of}
use Rattle.graph_text.specs.lines.Found.{run}

-- What makes a text of items: what a line says, what is wrong with an item alone, and with an item behind others, and
-- how many there may be.
pub record Rules (X : Type 0) : Type 0 where
  pub file : TextFile
  pub says : Row → Said X
  pub fault_alone : X → Option TextKind
  pub fault_after : List X → X → Option TextKind
  pub most : ℕ

-- the number of the next line, and the items so far
pub record Judged (X : Type 0) : Type 0 where
  pub line : ℕ
  pub items : List X

-- the fault of a line
abbrev pub text_fault : {X : Type 0} → Rules X → ℕ → TextKind → TextFault
text_fault r line kind = record { file = r.file; line = line; kind = kind }

-- the first of two faults
abbrev pub or_kind : Option TextKind → TextKind → TextKind
or_kind None kind = kind
or_kind (Some first) kind = first

-- an item is taken where nothing is wrong with it and there is room
abbrev pub put : {X : Type 0} → Rules X → Judged X → X → Option TextKind → Result (Judged X) TextFault
put r s x (Some kind) = Err (text_fault r s.line kind)
put r s x None = if nat_lt (length s.items) r.most then Ok (record { line = s.line + 1; items = s.items ++ x ∷ [] }) else Err (text_fault r s.line TooMany)

-- a line is passed over, faulty, or an item
abbrev pub judge : {X : Type 0} → Rules X → Judged X → Said X → Result (Judged X) TextFault
judge r s Passed = Ok (record { line = s.line + 1; items = s.items })
judge r s (Wrong kind) = Err (text_fault r s.line kind)
judge r s (Late x kind) = Err (text_fault r s.line (or_kind (r.fault_alone x) kind))
judge r s (Item x) = put r s x (r.fault_after s.items x)

-- a line
abbrev pub judge_line : {X : Type 0} → Rules X → Judged X → List ℕ → Result (Judged X) TextFault
judge_line r s l = judge r s (r.says (row_of (fields l)))

-- these lines, from the first on
abbrev pub judge_lines : {X : Type 0} → Rules X → List (List ℕ) → Result (Judged X) TextFault
judge_lines r ls = run (judge_line r) (record { line = 1; items = [] }) ls

-- The items of a text, or its first fault. Of a text that passes the limit only the lines count that end within it.
abbrev pub items_within : {X : Type 0} → ℕ → Rules X → List ℕ → Result (List X) TextFault
items_within limit r bytes =
    if nat_le (length bytes) limit then and_then (judge_lines r (lines bytes)) (λ s. Ok s.items)
    else and_then (judge_lines r (ended_lines (take limit bytes))) (λ s. Err (text_fault r s.line TooLong))

-- the same under the limit of all texts
unfoldable pub items_of : {X : Type 0} → Rules X → List ℕ → Result (List X) TextFault
items_of r bytes = items_within MAX_TEXT_BYTES r bytes
