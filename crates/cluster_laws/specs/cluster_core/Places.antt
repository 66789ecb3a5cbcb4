-- Each scope is in one place and holds just the locks of that place; a lock that is held by a writer has one holder.
use Rattle.std.specs.List.{list_any}
use Rattle.std.specs.Prelude.{Bool, List, Some, false, true, ℕ, ⊤, ◌<◌, ◌≡◌, ◌≢◌}
use Rattle.gl_base.specs.declared.scopes.ScopeId.{ScopeId}
use Rattle.cluster_laws.specs.cluster_core.Messages.{Ask, Done, Message, Ready}
use Rattle.cluster_laws.specs.cluster_core.Scopes.{takes_part}
use Rattle.cluster_laws.specs.cluster_core.Settings.{Setting, is_in_scope, is_near}
use Rattle.cluster_laws.specs.cluster_core.Stages.{Asks, Ends, Idle, Returns, Shows, Stage, Stays, Waits, centre_of, flying, has_lock, sight_of}
use Rattle.cluster_laws.specs.cluster_core.Worlds.{World, way}
use Rattle.graph_core.specs.DataGraph.{size}

-- the centre is a vertex of the scope's home
pub record IsAtHome (st : Setting) (s : ScopeId) (v : ℕ) : Type 0 where
  pub vertex : v < size st.graph
  pub owned : st.owner v ≡ s.home.0

-- the stage may be one of this scope
abbrev pub IsStageOf : Setting → ScopeId → Stage → Type 0
IsStageOf st s Idle = ⊤
IsStageOf st s (Asks v from to) = IsAtHome st s v × (takes_part st v to ≡ true) × (from < st.machines)
IsStageOf st s (Waits v lock) = IsAtHome st s v × (is_in_scope st v lock ≡ true)
IsStageOf st s (Returns v from) = IsAtHome st s v × (from < st.machines)
IsStageOf st s (Stays v) = IsAtHome st s v
IsStageOf st s (Ends v to) = IsAtHome st s v × (to s.home.0 ≡ false) × ((q : ℕ) → to q ≡ true → takes_part st v q ≡ true)

-- Of each scope the stage says where it is, and the cluster shows just that.
pub record ArePlaces (st : Setting) (w : World) (stage : ScopeId → Stage) : Type 0 where
  -- the world shows of each scope what its stage says
  pub shows : (s : ScopeId) → Shows st w s (sight_of st s (stage s))
  pub stages : (s : ScopeId) → IsStageOf st s (stage s)
  -- only scopes that were admitted are in some place
  pub admitted : (s : ScopeId) → stage s ≢ Idle → s.serial < (w.part s.home.0).serial
  -- no two scopes in flight have one vertex
  pub single : (s t : ScopeId) (v : ℕ) → flying (stage s) ≡ Some v → flying (stage t) ≡ Some v → s ≡ t
  -- while a scope holds the lock of its centre, no other scope holds that lock
  pub alone : (s t : ScopeId) (x : ℕ) → centre_of (stage s) ≡ Some x → has_lock st (stage s) x ≡ true → has_lock st (stage t) x ≡ true → s ≡ t

-- ---- exclusion, as the rest of the state needs it

-- the scope of v is ready
abbrev pub IsReadyFor : World → ScopeId → ℕ → Type 0
IsReadyFor w s v = ((w.part s.home.0).flight s ≡ Some v) × ((w.part s.home.0).ready s ≡ true)

-- word of an update of a neighbour of v
abbrev pub is_done_near : Setting → ℕ → Message → Bool
is_done_near st v (Ask s c rest) = false
is_done_near st v (Ready s) = false
is_done_near st v (Done s news) = is_near st v news.centre

-- one of the messages is such word
abbrev pub done_near : Setting → ℕ → List Message → Bool
done_near st v messages = list_any (is_done_near st v) messages

-- No two ready scopes have adjacent vertices, and while word of an update of a neighbour of v is on the way to the owner of
-- v, no scope of v is ready.
pub record IsExclusive (st : Setting) (w : World) : Type 0 where
  pub owned : (s : ScopeId) (v : ℕ) → IsReadyFor w s v → (v < size st.graph) × (st.owner v ≡ s.home.0)
  pub ready : (s t : ScopeId) (v u : ℕ) → IsReadyFor w s v → IsReadyFor w t u → is_near st v u ≡ false
  pub done : (s : ScopeId) (v p : ℕ) → IsReadyFor w s v → done_near st v (way w p s.home.0) ≡ false
