use Rattle.std.proofs.Common.{◌≡◌, ℕ, nat_eq, nat_cmp, eqb, map, take}
use Rattle.std.specs.BTreeSet.{contains}
use Rattle.std.specs.List.{IsDistinct, list_any}
use Rattle.graph_core.proofs.sorting.first_double.Given as goal

abbrev pub invariant-loop-place : goal.invariant-loop-place
invariant-loop-place g l =
    IsDistinct nat_eq (take l.place (map g.T.HasKey.key l.items)) × ((q : ℕ) → contains nat_cmp l.seen q ≡ list_any (eqb q) (take l.place (map g.T.HasKey.key l.items)))
