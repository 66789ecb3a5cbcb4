-- What an update does that may write its neighbours too.
use Rattle.std.specs.Prelude.{ℕ, List}
use Rattle.update_api.specs.declared.woken.Woken.{Woken}
use Rattle.update_api.specs.Near.{Near}

-- A neighbour as such an update sees it: its identifier, and what lies near along the edge to it.
pub record Neighbour : Type 0 where
  pub id : ℕ
  pub near : Near

-- What an update sees: the identifier and the number of its vertex, and its neighbours.
pub record Surroundings : Type 0 where
  pub id : ℕ
  pub own : ℕ
  pub neighbours : List Neighbour

-- The number that a vertex starts with; and of an update, by what it sees, the new numbers of the vertex, of each neighbour and
-- of the edge to it, and whom it wakes.
pub record FullUpdate : Type 0 where
  pub start : ℕ → ℕ  -- of the identifier
  pub number : Surroundings → ℕ
  pub near : Surroundings → Neighbour → ℕ
  pub mark : Surroundings → Neighbour → ℕ
  pub woken : Surroundings → Woken
