-- What scopes in flight are for, how many there are, and when all is over.
use Rattle.std.specs.Prelude.{None, Option, Some, [], false, suc, true, zero, ℕ, ⊤, ◌+◌, ◌<◌, ◌≡◌, ◌≤◌, ◌⊎◌}
use Rattle.gl_base.specs.declared.scopes.ScopeId.{ScopeId}
use Rattle.graph_core.specs.DataGraph.{size}
use Rattle.cluster_laws.specs.cluster_core.Settings.{Setting, Locking}
use Rattle.cluster_laws.specs.cluster_core.Actions.{Action, Admit, Grant, Send, Deliver, Update, Mark, Begin, Hear, SendSection, Collect, Record, MayHappen}
use Rattle.cluster_laws.specs.cluster_core.Worlds.{World, way}

-- the vertex of each scope in flight is pending or a task
abbrev pub AreDue : World → Type 0
AreDue w = (s : ScopeId) (v : ℕ) → (w.part s.home.0).flight s ≡ Some v → ((w.part s.home.0).pending v ≡ true) ⊎ ((w.part s.home.0).task v ≡ true)

-- 1 for a scope that is in flight
abbrev pub one_flying : Option ℕ → ℕ
one_flying None = 0
one_flying (Some v) = 1

-- how many of the first n scopes of machine a are in flight
abbrev pub flights_below : ℕ → (ScopeId → Option ℕ) → ℕ → ℕ
flights_below a flight zero = 0
flights_below a flight (suc n) = flights_below a flight n + one_flying (flight (record { home = record { 0 = a }; serial = n }))

-- Each machine knows how many of its scopes are in flight, and has none of another machine's. With locks they are no more than
-- may be.
pub record AreFlightsCounted (st : Setting) (w : World) : Type 0 where
  pub number : (a : ℕ) → (w.part a).flying ≡ flights_below a (w.part a).flight (w.part a).serial
  pub home : (a : ℕ) (s : ScopeId) (v : ℕ) → (w.part a).flight s ≡ Some v → s.home.0 ≡ a
  pub room : st.engine ≡ Locking → (a : ℕ) → (w.part a).flying ≤ st.pipeline

-- no scope is in flight, and no message on the way
pub record IsStill (w : World) : Type 0 where
  pub flights : (s : ScopeId) → (w.part s.home.0).flight s ≡ None
  pub ways : (p q : ℕ) → way w p q ≡ []

-- besides no vertex is a task or pending
pub record IsOver (st : Setting) (w : World) : Type 0 where
  pub still : IsStill w
  pub no_task : (v : ℕ) → v < size st.graph → (w.part (st.owner v)).task v ≡ false
  pub none_pending : (v : ℕ) → v < size st.graph → (w.part (st.owner v)).pending v ≡ false

-- the action is one on scopes and on messages between machines, and none of the coordinator's
abbrev pub IsWork : Action → Type 0
IsWork (Admit a v) = ⊤
IsWork (Grant a x) = ⊤
IsWork (Send p q) = ⊤
IsWork (Deliver p q) = ⊤
IsWork (Update s) = ⊤
IsWork (Mark s) = ⊤
IsWork Begin = ⊥
IsWork (Hear a) = ⊥
IsWork (SendSection a) = ⊥
IsWork (Collect a) = ⊥
IsWork Record = ⊥

-- such an action may happen
abbrev pub CanWork : Setting → World → Type 0
CanWork st w = (action : Action) × IsWork action × MayHappen st w action
