-- The calls of an object in memory, as its callers see them.
use Rattle.std.specs.Prelude.{ℕ, ◌+◌, ◌-◌, ◌^◌, min, List, Contains, Result, Ok, Err}

-- a count of 64 bits, raised by one: at its end it stays
abbrev pub raised : ℕ → ℕ
raised count = min (count + 1) (2 ^ 64 - 1)

-- the numbers of the calls that fail, how many calls there were, and how many faults
pub record CallCounts : Type 0 where
  pub failing : List ℕ
  pub count : ℕ
  pub faults : ℕ

-- before the first call
abbrev pub no_calls : List ℕ → CallCounts
no_calls failing = record { failing = failing; count = 0; faults = 0 }

-- the number of the next call is one of those that fail
abbrev pub NextFails : CallCounts → Type 0
NextFails calls = Contains calls.failing (raised calls.count)

-- one call more
abbrev pub called : CallCounts → CallCounts
called calls = record calls { count = raised calls.count }

-- one fault more
abbrev pub faulted : CallCounts → CallCounts
faulted calls = record calls { faults = raised calls.faults }

-- one call more, which was a fault where it failed
abbrev pub after_call : {T E : Type 0} → CallCounts → Result T E → CallCounts
after_call calls (Ok value) = called calls
after_call calls (Err fault) = faulted (called calls)
