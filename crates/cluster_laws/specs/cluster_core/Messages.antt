-- What machines tell each other.
use Rattle.std.specs.Prelude.{Bool, List, Option, ℕ}
use Rattle.gl_base.specs.declared.scopes.Datum.{Datum}
use Rattle.gl_base.specs.declared.scopes.ScopeId.{ScopeId}

-- What an update tells another machine of its scope: the centre's datum where it changed, the new numbers of those edges
-- between the centre and that machine's vertices that changed, and which of that machine's vertices it wakes.
pub record News : Type 0 where
  pub centre : ℕ
  pub datum : Option Datum
  pub edges : ℕ → Option ℕ
  pub wakes : ℕ → Bool
  -- which of that machine's vertices become pending, and for which snapshot: 0 where none does
  pub pends : ℕ → Bool
  pub number : ℕ

-- The numbers that a machine saved for a snapshot.
pub record Section : Type 0 where
  pub vertices : ℕ → Option ℕ
  pub edges : ℕ → Option ℕ

-- What one machine tells another one.
pub data Message : Type 0 where
  -- the scope of this centre asks for its locks here, and then at the other machines, in turn
  Ask : (scope : ScopeId) → (centre : ℕ) → (rest : List ℕ) → Message
  -- the scope has all its locks
  Ready : (scope : ScopeId) → Message
  -- the scope's update was made
  Done : (scope : ScopeId) → (news : News) → Message
