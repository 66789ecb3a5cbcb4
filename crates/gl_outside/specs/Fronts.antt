-- What writing a text in pieces leaves.
use Rattle.std.specs.Prelude.{◌≡◌, ◌++◌, ℕ, List, Option, take}
use Rattle.std.specs.Io.KnownBytes.{Appends}

-- told bytes grow by a front of the text
abbrev pub AppendsFront : Option (List ℕ) → Option (List ℕ) → List ℕ → Type 0
AppendsFront old new text = (count : ℕ) × Appends old new (take count text)

-- told bytes grow by what the piece had and has no longer at its front
abbrev pub Moves : Option (List ℕ) → Option (List ℕ) → List ℕ → List ℕ → Type 0
Moves old new piece_before piece_now = (moved : List ℕ) × Appends old new moved × (piece_before ≡ moved ++ piece_now)
