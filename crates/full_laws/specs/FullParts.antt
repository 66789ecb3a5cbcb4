-- One machine's part where an update may write its whole scope.
use Rattle.std.specs.Prelude.{Bool, List, Option, ℕ}
use Rattle.gl_base.specs.declared.entries.Entry.{Entry}
use Rattle.gl_base.specs.declared.scopes.ScopeId.{ScopeId}
use Rattle.full_laws.specs.FullMessages.{FullMessage}
use Rattle.full_laws.specs.Items.{Item}

-- Where a scope stands at a machine: it waits for the lock of a vertex there, these machines are still to come, and these
-- numbers were gathered so far.
pub record FullStand : Type 0 where
  pub centre : ℕ
  pub lock : ℕ
  pub rest : List ℕ
  pub seen : ℕ → Option ℕ

-- What a machine holds.
pub record FullPart : Type 0 where
  -- the number of each vertex that it owns, and its copy of each edge's number
  pub number : Item → ℕ
  pub task : ℕ → Bool
  -- the updates made here
  pub log : List Entry
  -- how many scopes were admitted here, and how many of them are in flight
  pub serial : ℕ
  pub flying : ℕ
  -- the centre of each scope that was admitted here and is in flight
  pub flight : ScopeId → Option ℕ
  -- where each scope that waits for a lock here stands
  pub stand : ScopeId → Option FullStand
  -- what was gathered for each scope of this home that has all its locks
  pub ready : ScopeId → Option (ℕ → Option ℕ)
  -- whether a scope holds a lock, and who waits for it, the first first
  pub holds : ℕ → ScopeId → Bool
  pub queue : ℕ → List ScopeId
  -- what waits to be sent to each machine
  pub out : ℕ → List FullMessage
