-- The identifiers of a list of vertices.
use Rattle.std.specs.Prelude.{ℕ, ◌≤◌, List, length, All}
use Rattle.gl_base.specs.declared.limits.TheConstants.{MAX_ID, MAX_VERTICES}
use Rattle.gl_base.specs.Lists.{Ascends}

-- identifiers ascend strictly and are within the limits
pub record AreIds (ids : List ℕ) : Type 0 where
  pub ascending : Ascends ids
  pub small : All (λ id. id ≤ MAX_ID) ids
  pub few : length ids ≤ MAX_VERTICES
