-- What is found in a text: items with their lines, and why no more was read.
use Rattle.std.specs.Prelude.{◌≡◌, ℕ, ◌+◌, List, [], ◌∷◌, ◌++◌, length, take, nat_lt, nat_le, if◌then◌else◌, Option, None, Some, Result, Ok, Err, IfSome}
use Rattle.gl_base.specs.Results.{and_then}
use Rattle.gl_base.specs.declared.limits.TheConstants.{MAX_TEXT_BYTES}
use Rattle.gl_base.specs.declared.text_faults.TextKind.TheVariants.{TooLong}
use Rattle.gl_outside.specs.Faults.{Rose}
use Rattle.graph_text.specs.declared.lines.said.Row.{Row}
use Rattle.graph_text.specs.declared.lines.said.Said.{Said}
use Rattle.graph_text.specs.declared.lines.said.Said.TheVariants.{Passed, Wrong, Late, Item}
use Rattle.graph_text.specs.declared.lines.said.Ending.{Ending}
use Rattle.graph_text.specs.declared.lines.said.Ending.TheVariants.{Fault, Late as LateAt, Full}
use Rattle.graph_text.specs.declared.lines.lines.FoundItems.{FoundItems}
use Rattle.graph_text.specs.declared.lines.said.Unread.{Unread}
use Rattle.graph_text.specs.declared.lines.said.Unread.TheVariants.{ReadFault, NoMemory}
use Rattle.graph_text.specs.lines.Lines.{lines, ended_lines, fields}
use Rattle.graph_text.specs.lines.Rows.{row_of}

-- one step after another, up to the first error
abbrev pub run : {S A E : Type 0} → (S → A → Result S E) → S → List A → Result S E
run step s [] = Ok s
run step s (x ∷ xs) = and_then (step s x) (λ t. run step t xs)

-- the number of the next line, and the items so far with their lines
pub record Kept (X : Type 0) : Type 0 where
  pub line : ℕ
  pub items : List X
  pub places : List ℕ

-- what was found, and why no more was read, where the text has more
pub record Found (X : Type 0) : Type 0 where
  pub items : List X
  pub places : List ℕ
  pub ending : Option (Ending X)

-- what is kept, where the reading ends
abbrev pub found_with : {X : Type 0} → Kept X → Option (Ending X) → Found X
found_with s ending = record { items = s.items; places = s.places; ending = ending }

abbrev pub stop : {X : Type 0} → Kept X → Ending X → Result (Kept X) (Found X)
stop s ending = Err (found_with s (Some ending))

abbrev pub nothing_kept : {X : Type 0} → Kept X
nothing_kept = record { line = 1; items = []; places = [] }

-- what is kept of a line; whether anything is wrong with the item is left for later
abbrev pub collect : {X : Type 0} → ℕ → Kept X → Said X → Result (Kept X) (Found X)
collect most s Passed = Ok (record { line = s.line + 1; items = s.items; places = s.places })
collect most s (Wrong kind) = stop s (Fault s.line kind)
collect most s (Late x kind) = stop s (LateAt s.line x kind)
collect most s (Item x) =
    if nat_lt (length s.items) most then Ok (record { line = s.line + 1; items = s.items ++ x ∷ []; places = s.places ++ s.line ∷ [] })
    else stop s (Full s.line x)

abbrev pub collect_line : {X : Type 0} → ℕ → (Row → Said X) → Kept X → List ℕ → Result (Kept X) (Found X)
collect_line most says s line = collect most s (says (row_of (fields line)))

-- what is found in a text of such lines, and in one that goes on behind them, past the limit
abbrev pub whole : {X : Type 0} → Result (Kept X) (Found X) → Found X
whole (Ok s) = found_with s None
whole (Err found) = found

abbrev pub cut : {X : Type 0} → Result (Kept X) (Found X) → Found X
cut (Ok s) = found_with s (Some (Fault s.line TooLong))
cut (Err found) = found

-- what is found in a text that has a limit
abbrev pub found_upto : {X : Type 0} → ℕ → ℕ → (Row → Said X) → List ℕ → Found X
found_upto limit most says bytes =
    if nat_le (length bytes) limit then whole (run (collect_line most says) nothing_kept (lines bytes))
    else cut (run (collect_line most says) nothing_kept (ended_lines (take limit bytes)))

-- what is found in a text, up to so many items
unfoldable pub found_in : {X : Type 0} → ℕ → (Row → Said X) → List ℕ → Found X
found_in most says bytes = found_upto MAX_TEXT_BYTES most says bytes

-- the same of a text, where it is told
abbrev pub FindsIn : {X : Type 0} → ℕ → (Row → Said X) → Found X → Option (List ℕ) → Type 0
FindsIn most says found text = (bytes : List ℕ) × (found_in most says bytes ≡ found) × IfSome text (λ told. told ≡ bytes)

abbrev pub found_of : {X : Type 0} → FoundItems X → Found X
found_of found = record { items = found.items.items; places = found.places.items; ending = found.ending }

-- what the reader of lines answers, where the count of faults went from `before` to `now`
abbrev pub ReadsLines : {X : Type 0} → ℕ → (Row → Said X) → Result (FoundItems X) Unread → Option (List ℕ) → ℕ → ℕ → Type 0
ReadsLines most says (Ok found) text before now = FindsIn most says (found_of found) text
ReadsLines most says (Err ReadFault) text before now = Rose before now
ReadsLines most says (Err NoMemory) text before now = Unit {0}
