-- A text as its lines, and a line as its fields.
use Rattle.std.specs.Prelude.{ℕ, ◌==◌, ◌&&◌, ◌||◌, not, Bool, true, false, if◌then◌else◌, List, [], ◌∷◌, ◌++◌}

-- nothing stands in the list
abbrev pub is_empty : {X : Type 0} → List X → Bool
is_empty [] = true
is_empty (x ∷ xs) = false

-- The lines of the bytes, where the first line has begun with `begun`. LF ends a line. At the end of the bytes a line
-- without LF counts where `last` says so and it isn't empty.
abbrev pub lines_after : Bool → List ℕ → List ℕ → List (List ℕ)
lines_after last begun [] = if last && not (is_empty begun) then begun ∷ [] else []
lines_after last begun (byte ∷ bytes) = if byte == 10 then begun ∷ lines_after last [] bytes else lines_after last (begun ++ byte ∷ []) bytes

-- the lines of a text
abbrev pub lines : List ℕ → List (List ℕ)
lines bytes = lines_after true [] bytes

-- the lines that an LF ends
abbrev pub ended_lines : List ℕ → List (List ℕ)
ended_lines bytes = lines_after false [] bytes

-- the line without the CR at its end
abbrev pub without_cr : List ℕ → List ℕ
without_cr [] = []
without_cr (byte ∷ line) = if byte == 13 && is_empty line then [] else byte ∷ without_cr line

-- blank or tab
abbrev pub is_blank : ℕ → Bool
is_blank byte = byte == 32 || byte == 9

-- the fields of the rest of a line, with this one before them where it isn't empty
abbrev pub with_field : List ℕ → List (List ℕ) → List (List ℕ)
with_field [] fields = fields
with_field (byte ∷ field) fields = (byte ∷ field) ∷ fields

-- the longest runs of other bytes than blanks and tabs, of which the first has begun with `begun`
abbrev pub fields_after : List ℕ → List ℕ → List (List ℕ)
fields_after begun [] = with_field begun []
fields_after begun (byte ∷ line) = if is_blank byte then with_field begun (fields_after [] line) else fields_after (begun ++ byte ∷ []) line

-- the fields of a line
abbrev pub fields : List ℕ → List (List ℕ)
fields line = fields_after [] (without_cr line)

-- the field begins with `#`
abbrev pub is_comment : List ℕ → Bool
is_comment [] = false
is_comment (byte ∷ field) = byte == 35
