-- How a cluster begins, and where actions lead it.
use Rattle.std.specs.Prelude.{List, None, [], false, length, true, ℕ, ◌<◌, ◌∷◌, ◌≡◌, ◌⊎◌}
use Rattle.gl_base.specs.declared.scopes.ScopeId.{ScopeId}
use Rattle.cluster_laws.specs.cluster_core.Actions.{Action, MayHappen, after}
use Rattle.cluster_laws.specs.cluster_core.Copies.{from_owner, to_owner}
use Rattle.cluster_laws.specs.cluster_core.Places.{IsExclusive}
use Rattle.cluster_laws.specs.cluster_core.Scopes.{takes_part}
use Rattle.cluster_laws.specs.cluster_core.Settings.{Setting}
use Rattle.cluster_laws.specs.cluster_core.Worlds.{World}
use Rattle.graph_core.specs.DataGraph.{size}

-- Each machine's data and edges have the numbers that the run began with, every vertex is a task of its owner, and nothing is
-- under way. Serial numbers may go on from any number.
pub record IsStart (st : Setting) (w : World) : Type 0 where
  pub vertices : (v a : ℕ) → v < size st.graph → takes_part st v a ≡ true → (w.part a).datum v ≡ record { value = st.start.vertex v; version = 0; mark = st.base }
  pub edges : (e a : ℕ) → e < length st.graph.edges → (a ≡ from_owner st e) ⊎ (a ≡ to_owner st e) → (w.part a).edge e ≡ st.start.edge e
  pub tasks : (u : ℕ) → u < size st.graph → (w.part (st.owner u)).task u ≡ true
  pub logs : (a : ℕ) → (w.part a).log ≡ []
  pub flying : (a : ℕ) → (w.part a).flying ≡ 0
  pub flights : (a : ℕ) (s : ScopeId) → (w.part a).flight s ≡ None
  pub stands : (a : ℕ) (s : ScopeId) → (w.part a).stand s ≡ None
  pub ready : (a : ℕ) (s : ScopeId) → (w.part a).ready s ≡ false
  pub holders : (a x : ℕ) (s : ScopeId) → (w.part a).holder x s ≡ None
  pub queues : (a x : ℕ) → (w.part a).queue x ≡ []
  pub outboxes : (a q : ℕ) → (w.part a).out q ≡ []
  pub links : (p q : ℕ) → w.link p q ≡ []

-- these actions, one after another, lead from one world to another
abbrev pub IsActionRun : Setting → World → List Action → World → Type 0
IsActionRun st old [] new = new ≡ old
IsActionRun st old (action ∷ actions) new = MayHappen st old action × IsActionRun st (after st old action) actions new

-- the same, where in each world on the way no two ready scopes are near each other
abbrev pub IsApartRun : Setting → World → List Action → World → Type 0
IsApartRun st old [] new = new ≡ old
IsApartRun st old (action ∷ actions) new = IsExclusive st old × MayHappen st old action × IsApartRun st (after st old action) actions new
