-- What the reader of lines keeps, and what it answers.
use Rattle.std.specs.Prelude.{◌≡◌, ℕ, ◌+◌, ◌<◌, ◌≤◌, IsTrue, List, [], ◌∷◌, ◌++◌, length, take, Option, None, Some, option_map, Result, Ok, Err}
use Rattle.gl_base.specs.declared.limits.TheConstants.{MAX_TEXT_BYTES}
use Rattle.gl_outside.specs.Faults.{Rose}
use Rattle.graph_text.specs.declared.lines.lines.Lines.{Lines}
use Rattle.graph_text.specs.declared.lines.said.Row.{Row}
use Rattle.graph_text.specs.declared.lines.said.Said.{Said}
use Rattle.graph_text.specs.declared.lines.said.Ending.TheVariants.{Full}
use Rattle.graph_text.specs.declared.lines.said.Halt.{Halt}
use Rattle.graph_text.specs.declared.lines.said.Halt.TheVariants.{Stopped, ReadFault, NoMemory}
use Rattle.graph_text.specs.lines.Found.{run, Kept, Found, found_with, FindsIn}
use Rattle.graph_text.specs.lines.Inner.Steps.{ReadText, byte_step, nothing_read, found_by_bytes}
use Rattle.graph_text.specs.lines.Inner.Places.{seen_at, seen_before, has_number}

-- the lines that are read
abbrev pub kept_at : {X : Type 0} → Lines X → Kept X
kept_at l = record { line = l.line; items = l.items.items; places = l.places.items }

-- all that is read, with the number of the field that is begun
abbrev pub read_text : {X : Type 0} → Lines X → Option ℕ → ReadText X
read_text l number =
    record { kept = kept_at l; begun = record { seen = seen_at l.fields number; before_cr = option_map (seen_before l.fields) l.before_cr } }

-- only inside a field that may be a number, and not behind a CR, there is one
abbrev pub IsBetween : {X : Type 0} → Lines X → Option ℕ → Type 0
IsBetween l None = Unit {0}
IsBetween l (Some n) = IsTrue (has_number l.fields.place) × (l.before_cr ≡ None)

-- the line that is begun is the same
abbrev pub IsBegunAs : {X : Type 0} → Lines X → Lines X → Type 0
IsBegunAs old new = (new.fields ≡ old.fields) × (new.before_cr ≡ old.before_cr)

-- an item is kept, or is one too many
abbrev pub TakesItem : {X : Type 0} → ℕ → Kept X → X → Kept X → Result (Unit {0}) (Halt X) → Type 0
TakesItem most old x new (Ok taken) =
    (length old.items < most) × (new ≡ record { line = old.line; items = old.items ++ x ∷ []; places = old.places ++ old.line ∷ [] })
TakesItem most old x new (Err (Stopped ending)) = (most ≤ length old.items) × (ending ≡ Full old.line x) × (new ≡ old)
TakesItem most old x new (Err ReadFault) = ⊥
TakesItem most old x new (Err NoMemory) = Unit {0}

-- these steps end so, with what is kept
abbrev pub HaltsAt : {X S : Type 0} → Result S (Found X) → Kept X → Halt X → Type 0
HaltsAt steps new (Stopped ending) = steps ≡ Err (found_with new (Some ending))
HaltsAt steps new ReadFault = ⊥
HaltsAt steps new NoMemory = Unit {0}

-- whole lines lead to this state, or end there
abbrev pub LeadsTo : {X : Type 0} → Result (Kept X) (Found X) → Kept X → Result (Unit {0}) (Halt X) → Type 0
LeadsTo steps new (Ok taken) = steps ≡ Ok new
LeadsTo steps new (Err halt) = HaltsAt steps new halt

-- bytes lead to this state, or end there
abbrev pub LeadsToText : {X : Type 0} → Result (ReadText X) (Found X) → Lines X → Result (Option ℕ) (Halt X) → Type 0
LeadsToText steps new (Ok number) = steps ≡ Ok (read_text new number)
LeadsToText steps new (Err halt) = HaltsAt steps (kept_at new) halt

-- the bytes of a line at the front, if any, lead to this state, or end there
abbrev pub TakesPlain : {X : Type 0} → ℕ → (Row → Said X) → Lines X → Option ℕ → List ℕ → Lines X → Result ℕ (Halt X) → Type 0
TakesPlain most says old number bytes new (Ok taken) =
    (taken ≤ length bytes) × (run (byte_step most says) (read_text old number) (take taken bytes) ≡ Ok (read_text new number)) × (IsBetween old number → IsBetween new number)
TakesPlain most says old number bytes new (Err halt) = HaltsAt (run (byte_step most says) (read_text old number) bytes) (kept_at new) halt

-- a piece leads to this state, or settles what is found, whatever comes behind it
abbrev pub TakesPiece : {X : Type 0} → ℕ → (Row → Said X) → ReadText X → List ℕ → ℕ → Lines X → Result (Option ℕ) (Halt X) → Type 0
TakesPiece most says old piece room new (Ok number) = (length piece ≤ room) × (run (byte_step most says) old piece ≡ Ok (read_text new number))
TakesPiece most says old piece room new (Err (Stopped ending)) =
    (taken rest : List ℕ) → run (byte_step most says) nothing_read taken ≡ Ok old → length taken + room ≡ MAX_TEXT_BYTES
    → found_by_bytes most says ((taken ++ piece) ++ rest) ≡ found_with (kept_at new) (Some ending)
TakesPiece most says old piece room new (Err ReadFault) = ⊥
TakesPiece most says old piece room new (Err NoMemory) = Unit {0}

-- what the reader of bytes answers
abbrev pub ReadsBytes : {X : Type 0} → ℕ → (Row → Said X) → Kept X → Result (Unit {0}) (Halt X) → Option (List ℕ) → ℕ → ℕ → Type 0
ReadsBytes most says new (Ok taken) text before now = FindsIn most says (found_with new None) text
ReadsBytes most says new (Err (Stopped ending)) text before now = FindsIn most says (found_with new (Some ending)) text
ReadsBytes most says new (Err ReadFault) text before now = Rose before now
ReadsBytes most says new (Err NoMemory) text before now = Unit {0}
