-- Texts that are written whole.
use Rattle.std.specs.Prelude.{ℕ, List, Option, Result, Ok, Err}
use Rattle.std.specs.Io.KnownBytes.{Appends}
use Rattle.gl_outside.specs.Faults.{Rose}
use Rattle.gl_outside.specs.declared.source.Failed.{Failed}
use Rattle.gl_outside.specs.Fronts.{AppendsFront}

-- the whole text was appended, or a front of it where the sink failed
abbrev pub WritesAll : Result (Unit {0}) Failed → List ℕ → Option (List ℕ) → Option (List ℕ) → ℕ → ℕ → Type 0
WritesAll (Ok done) text old new before now = Appends old new text
WritesAll (Err fault) text old new before now = Rose before now × AppendsFront old new text
