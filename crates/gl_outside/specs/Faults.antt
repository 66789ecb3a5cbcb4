-- Counts of faults. A count is of 64 bits: at its end it stays, so that nothing is said of it there.
use Rattle.std.specs.Prelude.{ℕ, ◌-◌, ◌^◌, ◌<◌, ◌≤◌, Result, OnErr}

-- the count rose
abbrev pub Rose : ℕ → ℕ → Type 0
Rose before now = now < 2 ^ 64 - 1 → before < now

-- a call never lowers the count, and fails only where it rose
pub record Counts {T E : Type 0} (before now : ℕ) (result : Result T E) : Type 0 where
  pub later : before ≤ now
  pub failed : OnErr result (Rose before now)
