-- Updates counted one by one.
use Rattle.std.proofs.Common.{◌≡◌, ℕ, ◌+◌, ◌<◌, ◌^◌, List, length, arith}
use Rattle.std.specs.Prelude.{count_by}
use Rattle.std.proofs.lemmas.List.Sums.{count_by-le-length}
use Rattle.gl_base.specs.declared.entries.Entry.{Entry}
use Rattle.full_runs.specs.FullEnds.{is_of}

-- they are no more than the order has
pub counted_low : (a : ℕ) (order rest : List Entry) (made : ℕ) → length order < 2 ^ 63 → made + count_by (is_of a) rest ≡ count_by (is_of a) order → made < 2 ^ 63
counted_low a order rest made small is = let few = count_by-le-length (is_of a) order in omega (arith, few, is, small)
