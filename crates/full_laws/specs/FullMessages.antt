-- What machines tell each other where scopes gather the numbers of their vertices while they take the locks.
use Rattle.std.specs.Prelude.{Bool, List, Option, [], ◌∷◌, ℕ}
use Rattle.gl_base.specs.declared.scopes.ScopeId.{ScopeId}
use Rattle.full_laws.specs.Items.{Item}

-- What an update gives another machine: the numbers that this machine keeps and the update wrote, and which of its vertices the
-- update wakes.
pub record Gift : Type 0 where
  pub numbers : Item → Option ℕ
  pub wakes : ℕ → Bool

-- What one machine tells another one. `seen` has the numbers that were gathered so far.
pub data FullMessage : Type 0 where
  -- the scope of this centre asks for its locks here, and then at the other machines, in turn
  Gather : (scope : ScopeId) → (centre : ℕ) → (rest : List ℕ) → (seen : ℕ → Option ℕ) → FullMessage
  -- the scope has all its locks
  Home : (scope : ScopeId) → (seen : ℕ → Option ℕ) → FullMessage
  -- the scope's update was made
  Give : (scope : ScopeId) → (gift : Gift) → FullMessage

-- the gifts among messages
abbrev pub gifts_of : List FullMessage → List Gift
gifts_of [] = []
gifts_of (Gather s v rest seen ∷ messages) = gifts_of messages
gifts_of (Home s seen ∷ messages) = gifts_of messages
gifts_of (Give s gift ∷ messages) = gift ∷ gifts_of messages
