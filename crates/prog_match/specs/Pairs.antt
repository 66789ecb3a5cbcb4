-- What an update of pairs does.
use Rattle.std.specs.Prelude.{ℕ, Bool, if◌then◌else◌, ◌==◌, ◌&&◌, List, map, filter}
use Rattle.gl_base.specs.declared.limits.TheConstants.{INF}
use Rattle.update_api.specs.declared.woken.Woken.TheVariants.{Nobody}
use Rattle.update_api.specs.Updates.{least}
use Rattle.full_scope.specs.FullUpdates.{Neighbour, Surroundings, FullUpdate}

-- the neighbour has no mate yet
abbrev pub is_unmatched : Neighbour → Bool
is_unmatched n = n.near.number == INF

-- the least identifier of an unmatched neighbour, and `INF` where there is none
abbrev pub least_unmatched : List Neighbour → ℕ
least_unmatched neighbours = least INF (map (λ n. n.id) (filter is_unmatched neighbours))

-- the vertex and the neighbour are unmatched, and no other such neighbour has a lower identifier
abbrev pub is_mate : Surroundings → Neighbour → Bool
is_mate seen n = seen.own == INF && (is_unmatched n && n.id == least_unmatched seen.neighbours)

-- an unmatched vertex and its unmatched neighbour of least identifier get each other's identifiers, and the edge between them 1
abbrev pub update_of_pairs : FullUpdate
update_of_pairs =
    record {
      start = λ id. INF;
      number = λ seen. if seen.own == INF then least_unmatched seen.neighbours else seen.own;
      near = λ seen n. if is_mate seen n then seen.id else n.near.number;
      mark = λ seen n. if is_mate seen n then 1 else n.near.mark;
      woken = λ seen. Nobody;
    }
