-- The search for a free colour, one colour after another.
use Rattle.std.proofs.Common.{◌≡◌, ℕ, zero, suc, ◌+◌, ◌==◌, true, false, List, refl}
use Rattle.std.specs.List.{list_any}
use Rattle.update_api.specs.LeastFree.{first_free}
use Rattle.update_api.specs.Near.{Near}

-- it stops at a free colour
pub first_free_stops : (more k : ℕ) (nears : List Near) → list_any (λ near. near.number == k) nears ≡ false → first_free more k nears ≡ k
first_free_stops zero k nears free = refl
first_free_stops (suc more) k nears free = rw free refl

-- it goes on at a taken one
pub first_free_goes_on : (more k : ℕ) (nears : List Near) → list_any (λ near. near.number == k) nears ≡ true → first_free more (k + 1) nears ≡ first_free (suc more) k nears
first_free_goes_on more k nears taken = rw taken refl
