-- What a vertex sees along one of its edges.
use Rattle.std.specs.Prelude.{ℕ, Bool}

-- The number of the other end, the edge's own number and its weight, and whether it leads out of the vertex and into it.
pub record Near : Type 0 where
  pub number : ℕ
  pub mark : ℕ
  pub weight : ℕ
  pub out : Bool
  pub into : Bool
