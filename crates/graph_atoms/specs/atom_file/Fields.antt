-- Fields of a file: numbers of some bytes each, the highest byte first.
use Rattle.std.specs.Prelude.{ℕ, List, drop}
use Rattle.byteorder.specs.Endian.{big_number}

-- the number in the n bytes from this place on
abbrev pub field : List ℕ → ℕ → ℕ → ℕ
field bytes at n = big_number n (drop at bytes)
