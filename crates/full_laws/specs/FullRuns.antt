-- How such a cluster begins, and where actions lead it.
use Rattle.std.specs.Prelude.{List, None, [], false, true, ℕ, ◌<◌, ◌∷◌, ◌≡◌}
use Rattle.gl_base.specs.declared.scopes.ScopeId.{ScopeId}
use Rattle.graph_core.specs.DataGraph.{size}
use Rattle.cluster_laws.specs.cluster_core.Settings.{Setting}
use Rattle.full_scope.specs.FullStates.{full_start}
use Rattle.full_scope.specs.FullUpdates.{FullUpdate}
use Rattle.full_laws.specs.FullActions.{FullAction, MayHappenFull, after_action}
use Rattle.full_laws.specs.FullReplays.{gifts_from}
use Rattle.full_laws.specs.FullWorlds.{FullWorld, full_way}
use Rattle.full_laws.specs.Items.{IsItem, Item, keeps, number_in}

-- Each number is that of the start wherever it is kept, every vertex is a task, no ticket was drawn, and nothing is under way.
pub record IsFullStart (st : Setting) (p : FullUpdate) (w : FullWorld) : Type 0 where
  pub numbers : (i : Item) (a : ℕ) → IsItem st.graph i → keeps st a i ≡ true → (w.part a).number i ≡ number_in (full_start st.graph p) i
  pub tasks : (u : ℕ) → u < size st.graph → (w.part (st.owner u)).task u ≡ true
  pub next : w.next ≡ 0
  pub logs : (a : ℕ) → (w.part a).log ≡ []
  pub flying : (a : ℕ) → (w.part a).flying ≡ 0
  pub flights : (a : ℕ) (s : ScopeId) → (w.part a).flight s ≡ None
  pub stands : (a : ℕ) (s : ScopeId) → (w.part a).stand s ≡ None
  pub ready : (a : ℕ) (s : ScopeId) → (w.part a).ready s ≡ None
  pub holders : (a x : ℕ) (s : ScopeId) → (w.part a).holds x s ≡ false
  pub queues : (a x : ℕ) → (w.part a).queue x ≡ []
  pub silent : (p q : ℕ) → full_way w p q ≡ []

-- these actions, one after another, lead from one world to another
abbrev pub IsFullRun : Setting → FullUpdate → FullWorld → List FullAction → FullWorld → Type 0
IsFullRun st p old [] new = new ≡ old
IsFullRun st p old (action ∷ actions) new = MayHappenFull st old action × IsFullRun st p (after_action st p old action) actions new

-- nothing given is on its way
abbrev pub IsAllGiven : FullWorld → Type 0
IsAllGiven w = (p q : ℕ) → gifts_from w p q ≡ []
