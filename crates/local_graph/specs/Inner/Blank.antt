-- Numbers of edges that no program marked.
use Rattle.std.specs.Prelude.{◌≡◌, ℕ, ◌≤◌, Bool, true, false, List, [], length, replicate, slice_index}

-- each of these numbers is 0
abbrev pub AreBlank : List ℕ → Type 0
AreBlank numbers = (e : ℕ) → slice_index numbers e ≡ 0

-- the numbers of so many edges, where the list has none while each is 0
abbrev pub kept_numbers : Bool → ℕ → List ℕ → List ℕ
kept_numbers true count numbers = replicate count 0
kept_numbers false count numbers = numbers

-- the list has none and room for all while each is 0, and else all
pub record AreNumbersKept (blank : Bool) (count : ℕ) (numbers : List ℕ) (capacity : ℕ) : Type 0 where
  pub none : blank ≡ true → numbers ≡ []
  pub room : blank ≡ true → count ≤ capacity
  pub all : blank ≡ false → length numbers ≡ count
