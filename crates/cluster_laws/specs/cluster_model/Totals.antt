-- Sums over the machines.
use Rattle.std.specs.Prelude.{suc, zero, ℕ, ◌+◌}

-- f(k) + f(k + 1) + .., so many numbers
unfoldable pub total_from : ℕ → ℕ → (ℕ → ℕ) → ℕ
total_from k zero f = 0
total_from k (suc many) f = f k + total_from (suc k) many f

-- f(0) + f(1) + .. + f(machines - 1)
abbrev pub total : ℕ → (ℕ → ℕ) → ℕ
total machines f = total_from 0 machines f
