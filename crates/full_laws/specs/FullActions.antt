-- What may happen where updates write their whole scopes, when, and what it does.
use Rattle.std.specs.Prelude.{List, None, Option, Some, [], false, pred, suc, true, ℕ, ◌++◌, ◌<◌, ◌∷◌, ◌≡◌, ◌≢◌}
use Rattle.gl_base.specs.declared.entries.Entry.TheVariants.{Go}
use Rattle.gl_base.specs.declared.scopes.ScopeId.{ScopeId}
use Rattle.graph_core.specs.DataGraph.{size}
use Rattle.cluster_laws.specs.cluster_core.Ranges.{set_at}
use Rattle.cluster_laws.specs.cluster_core.Settings.{Setting}
use Rattle.full_scope.specs.FullUpdates.{FullUpdate}
use Rattle.full_laws.specs.FullEffects.{admitted_full, granted_full, lent_full, received_full, updated_full}
use Rattle.full_laws.specs.FullMessages.{FullMessage}
use Rattle.full_laws.specs.FullParts.{FullPart}
use Rattle.full_laws.specs.FullWorlds.{FullWorld, with_full_link, with_full_part}

pub data FullAction : Type 0 where
  -- a machine admits a scope of one of its vertices
  Admits : (machine : ℕ) → (vertex : ℕ) → FullAction
  -- the first request in the queue of a machine's vertex is granted
  Grants : (machine : ℕ) → (vertex : ℕ) → FullAction
  -- a message goes from the outbox to the link
  Sends : (from : ℕ) → (to : ℕ) → FullAction
  -- the first message of a link is received
  Delivers : (from : ℕ) → (to : ℕ) → FullAction
  -- the update of a scope is made
  Updates : (scope : ScopeId) → FullAction

-- ---- when each may happen

-- the vertex is a task of machine a, it has no scope in flight, and fewer scopes are in flight than may be
pub record MayAdmitFull (st : Setting) (a v : ℕ) (part : FullPart) : Type 0 where
  pub vertex : v < size st.graph
  pub owned : st.owner v ≡ a
  pub task : part.task v ≡ true
  pub fresh : (s : ScopeId) → part.flight s ≢ Some v
  pub room : part.flying < st.pipeline

-- somebody waits, and nobody holds the lock
pub record MayGrantFull (st : Setting) (a x : ℕ) (part : FullPart) : Type 0 where
  pub vertex : x < size st.graph
  pub owned : st.owner x ≡ a
  pub scope : ScopeId
  pub behind : List ScopeId
  pub first : part.queue x ≡ scope ∷ behind
  pub free : (s : ScopeId) → part.holds x s ≡ false

-- there is a message
pub record HasFirstFull (messages : List FullMessage) : Type 0 where
  pub message : FullMessage
  pub behind : List FullMessage
  pub first : messages ≡ message ∷ behind

-- the scope is ready, with what was gathered for it, and a ticket is left
pub record MayUpdateFull (s : ScopeId) (part : FullPart) (left : ℕ) : Type 0 where
  pub vertex : ℕ
  pub seen : ℕ → Option ℕ
  pub flight : part.flight s ≡ Some vertex
  pub ready : part.ready s ≡ Some seen
  pub ticket : 0 < left

-- the guard of each action: who acts looks at its own part alone, and at the link or tickets that it uses
abbrev pub MayHappenFull : Setting → FullWorld → FullAction → Type 0
MayHappenFull st w (Admits a v) = MayAdmitFull st a v (w.part a)
MayHappenFull st w (Grants a x) = MayGrantFull st a x (w.part a)
MayHappenFull st w (Sends p q) = HasFirstFull ((w.part p).out q)
MayHappenFull st w (Delivers p q) = HasFirstFull (w.link p q)
MayHappenFull st w (Updates s) = MayUpdateFull s (w.part s.home.0) w.left

-- ---- what each does

-- the first message of the outbox goes to the end of the link
abbrev pub sends_full : FullWorld → ℕ → ℕ → List FullMessage → FullWorld
sends_full w p q [] = w
sends_full w p q (m ∷ behind) =
    with_full_link (with_full_part w p (record (w.part p) { out = set_at (w.part p).out q behind })) p q (w.link p q ++ m ∷ [])

-- the first message of the link is received
abbrev pub delivers_full : Setting → FullWorld → ℕ → ℕ → List FullMessage → FullWorld
delivers_full st w p q [] = w
delivers_full st w p q (m ∷ behind) = with_full_link (with_full_part w q (received_full st q m (w.part q))) p q behind

-- the home of the scope makes the update of this centre, for which this was gathered, under the next ticket
abbrev pub updates_full : Setting → FullUpdate → FullWorld → ScopeId → Option ℕ → Option (ℕ → Option ℕ) → FullWorld
updates_full st p w s (Some v) (Some seen) =
    let part : FullPart = w.part s.home.0 in
    let made : FullPart = updated_full st p s.home.0 s v (lent_full seen part) (Go s.home (record { 0 = v }) w.next) part in
    record (with_full_part w s.home.0 made) { next = suc w.next; left = pred w.left }
updates_full st p w s None seen = w
updates_full st p w s (Some v) None = w

-- the effect of each action
abbrev pub after_action : Setting → FullUpdate → FullWorld → FullAction → FullWorld
after_action st p w (Admits a v) = with_full_part w a (admitted_full st a v (w.part a))
after_action st p w (Grants a x) = with_full_part w a (granted_full st a x (w.part a))
after_action st p w (Sends from to) = sends_full w from to ((w.part from).out to)
after_action st p w (Delivers from to) = delivers_full st w from to (w.link from to)
after_action st p w (Updates s) = updates_full st p w s ((w.part s.home.0).flight s) ((w.part s.home.0).ready s)
