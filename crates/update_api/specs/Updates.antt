-- What an update does at a vertex, for each program.
use Rattle.std.specs.Prelude.{ℕ, ◌+◌, min, Bool, if◌then◌else◌, ◌==◌, ◌&&◌, ◌||◌, nat_lt, List, [], ◌∷◌, map, length, filter}
use Rattle.gl_base.specs.declared.limits.TheConstants.{INF}
use Rattle.update_api.specs.declared.woken.Woken.{Woken}
use Rattle.update_api.specs.declared.woken.Woken.TheVariants.{Nobody, Ahead, Around}
use Rattle.update_api.specs.Near.{Near}
use Rattle.update_api.specs.LeastFree.{least_free}
use Rattle.update_api.specs.Supported.{greatest_supported}

-- The number that a vertex starts with; and of an update, the new numbers of the vertex and of its edges, and whom it wakes.
pub record Update : Type 0 where
  pub start : ℕ → ℕ  -- of the identifier
  pub number : ℕ → List Near → ℕ  -- of the own number and what lies near
  pub mark : ℕ → Near → ℕ  -- of the new own number, for each edge
  pub woken : ℕ → ℕ → Woken  -- of the old and the new own number

-- the least of these, and of the own number
abbrev pub least : ℕ → List ℕ → ℕ
least own [] = own
least own (x ∷ xs) = min x (least own xs)

-- the vertex with the identifier `source` starts at 0, and each other one is not reached
abbrev pub start_at : ℕ → ℕ → ℕ
start_at source id = if id == source then 0 else INF

-- an in-neighbour that was reached
abbrev pub comes_reached : Near → Bool
comes_reached near = near.into && nat_lt near.number INF

-- these where the number changed, and else nobody
abbrev pub where_changed : Woken → ℕ → ℕ → Woken
where_changed woken old new = if old == new then Nobody else woken

-- the least of the own number and one more than each in-neighbour that was reached
abbrev pub update_of_levels : ℕ → Update
update_of_levels source =
    record {
      start = start_at source;
      number = λ own nears. least own (map (λ near. near.number + 1) (filter comes_reached nears));
      mark = λ own near. near.mark;
      woken = where_changed Ahead;
    }

-- the least of the own number and the neighbours' numbers
abbrev pub update_of_components : Update
update_of_components =
    record {
      start = λ id. id;
      number = λ own nears. least own (map (λ near. near.number) nears);
      mark = λ own near. near.mark;
      woken = where_changed Around;
    }

-- the edge leads without slack from a reached end to the other one, in one direction at least
abbrev pub is_tight : ℕ → Near → Bool
is_tight own near =
    (near.out && (nat_lt own INF && own + near.weight == near.number))
    || (near.into && (nat_lt near.number INF && near.number + near.weight == own))

-- the least of the own number and number plus weight of each in-neighbour that was reached; a tight edge is marked 1, and each other one 0
abbrev pub update_of_paths : ℕ → Update
update_of_paths source =
    record {
      start = start_at source;
      number = λ own nears. least own (map (λ near. near.number + near.weight) (filter comes_reached nears));
      mark = λ own near. if is_tight own near then 1 else 0;
      woken = where_changed Ahead;
    }

-- where the own number is 0, the least number from 1 that no neighbour has
abbrev pub update_of_colours : Update
update_of_colours =
    record {
      start = λ id. 0;
      number = λ own nears. if own == 0 then least_free nears else own;
      mark = λ own near. near.mark;
      woken = λ old new. Nobody;
    }

-- the greatest number up to the own one that so many neighbours reach, where edges have no direction and so each neighbour
-- lies near once; it is no more than there are neighbours
abbrev pub update_of_cores : Update
update_of_cores =
    record {
      start = λ id. INF;
      number = λ own nears. greatest_supported (min own (length nears)) nears;
      mark = λ own near. near.mark;
      woken = where_changed Around;
    }
