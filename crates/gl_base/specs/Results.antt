-- One step after another.
use Rattle.std.specs.Prelude.{Result, Ok, Err}

-- the next step, where this one went well
abbrev pub and_then : {S T E : Type 0} → Result S E → (S → Result T E) → Result T E
and_then (Ok value) next = next value
and_then (Err fault) next = Err fault
