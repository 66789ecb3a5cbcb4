use Rattle.std.proofs.Common.{◌≡◌, map, All}
use Rattle.std.specs.List.{range_with_len}
use Rattle.graph_atoms.specs.declared.atom_place.falling.Rank.{Rank}
use Rattle.graph_atoms.specs.atom_place.Inner.Ranks.{IsRank}
use Rattle.graph_atoms.proofs.atom_place.falling.ranks_of.Given as goal

abbrev pub invariant-loop-atom : goal.invariant-loop-atom
invariant-loop-atom l =
    record {
      atoms : map (λ (r : Rank). r.atom) l.ranks.items ≡ range_with_len 0 l.atom;
      each : All (IsRank l.weights) l.ranks.items;
    }
