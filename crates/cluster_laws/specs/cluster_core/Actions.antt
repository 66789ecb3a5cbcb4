-- The actions of a cluster: when each may happen, and what it does.
pub use Rattle.gl_base.specs.scope_lists.Scopes.{GoTogether}
use Rattle.std.specs.Prelude.{List, None, Option, Some, [], false, pred, suc, true, ℕ, ◌++◌, ◌<◌, ◌∷◌, ◌≡◌, ◌≢◌, ◌⊎◌}
use Rattle.gl_base.specs.declared.entries.Entry.TheVariants.{Go}
use Rattle.gl_base.specs.declared.scopes.Claim.{Claim}
use Rattle.gl_base.specs.declared.scopes.Mode.{Mode}
use Rattle.gl_base.specs.declared.scopes.ScopeId.{ScopeId}
use Rattle.cluster_laws.specs.cluster_core.Effects.{admitted, begins, granted, marked, received, updated}
use Rattle.cluster_laws.specs.cluster_core.Messages.{Message, Section}
use Rattle.cluster_laws.specs.cluster_core.Parts.{Part}
use Rattle.cluster_laws.specs.cluster_core.Ranges.{set_at}
use Rattle.cluster_laws.specs.cluster_core.Settings.{Chromatic, Engine, Locking, Setting}
use Rattle.cluster_laws.specs.cluster_core.Worlds.{World, with_link, with_part}
use Rattle.graph_core.specs.DataGraph.{size}

-- what may happen in a cluster, as far as scopes, locks, numbers, tasks and snapshots see it
pub data Action : Type 0 where
  -- a machine admits a scope of one of its vertices
  Admit : (machine : ℕ) → (vertex : ℕ) → Action
  -- the first request in the queue of a machine's vertex is granted
  Grant : (machine : ℕ) → (vertex : ℕ) → Action
  -- a message goes from the outbox to the link
  Send : (from : ℕ) → (to : ℕ) → Action
  -- the first message of a link is received
  Deliver : (from : ℕ) → (to : ℕ) → Action
  -- the update of a scope is made
  Update : (scope : ScopeId) → Action
  -- the snapshot update of a scope is made
  Mark : (scope : ScopeId) → Action
  -- the coordinator begins a snapshot
  Begin : Action
  -- a machine hears of it
  Hear : (machine : ℕ) → Action
  -- a machine sends its section
  SendSection : (machine : ℕ) → Action
  -- the coordinator has it
  Collect : (machine : ℕ) → Action
  -- the snapshot is acknowledged
  Record : Action

-- ---- when each may happen

-- with locks fewer scopes are in flight than may be; with colours the machine is in the step of the vertex's colour, and admits
abbrev pub IsItsTurn : Engine → ℕ → ℕ → Part → Type 0
IsItsTurn Locking pipeline v part = part.flying < pipeline
IsItsTurn (Chromatic colour colours) pipeline v part = (colour v ≡ part.colour) × (part.closed ≡ false)

-- the vertex is a task of machine a or pending there, it has no scope in flight, and it is its turn
pub record MayAdmit (st : Setting) (a v : ℕ) (part : Part) : Type 0 where
  pub vertex : v < size st.graph
  pub owned : st.owner v ≡ a
  pub due : (part.pending v ≡ true) ⊎ (part.task v ≡ true)
  pub fresh : (s : ScopeId) → part.flight s ≢ Some v
  pub turn : IsItsTurn st.engine st.pipeline v part

-- somebody waits, and the first of them goes together with each holder
pub record MayGrant (st : Setting) (a x : ℕ) (part : Part) : Type 0 where
  pub vertex : x < size st.graph
  pub owned : st.owner x ≡ a
  pub claim : Claim
  pub behind : List Claim
  pub first : part.queue x ≡ claim ∷ behind
  pub together : (s : ScopeId) (mode : Mode) → part.holder x s ≡ Some mode → GoTogether mode claim.mode

-- there is a message
pub record HasFirst (messages : List Message) : Type 0 where
  pub message : Message
  pub behind : List Message
  pub first : messages ≡ message ∷ behind

-- the scope is ready, its vertex is a task, and a ticket is left
pub record MayUpdate (s : ScopeId) (part : Part) (left : ℕ) : Type 0 where
  pub vertex : ℕ
  pub flight : part.flight s ≡ Some vertex
  pub ready : part.ready s ≡ true
  pub not_pending : part.pending vertex ≡ false
  pub task : part.task vertex ≡ true
  pub ticket : 0 < left

-- the scope is ready, and its vertex is pending
pub record MayMark (s : ScopeId) (part : Part) : Type 0 where
  pub vertex : ℕ
  pub flight : part.flight s ≡ Some vertex
  pub ready : part.ready s ≡ true
  pub pending : part.pending vertex ≡ true

-- the coordinator has told of a snapshot
pub record HasOrder (orders : List ℕ) : Type 0 where
  pub number : ℕ
  pub behind : List ℕ
  pub first : orders ≡ number ∷ behind

-- a snapshot was begun here in this run, all vertices of the machine have its mark, and its section was not sent
pub record MaySend (st : Setting) (a : ℕ) (part : Part) : Type 0 where
  pub begun : st.base < part.known
  pub marked : (v : ℕ) → v < size st.graph → st.owner v ≡ a → (part.datum v).mark ≡ part.known
  pub unsent : part.sent < part.known

-- a section is on the way
pub record HasSection (sections : List Section) : Type 0 where
  pub section : Section
  pub behind : List Section
  pub first : sections ≡ section ∷ behind

-- a snapshot is under way, and all sections have come
pub record MayRecord (st : Setting) (w : World) : Type 0 where
  pub under : w.acknowledged < w.begun
  pub sections : (a : ℕ) → a < st.machines → (section : Section) × (w.collected a ≡ Some section)

-- the guard of each action: who acts looks at its own part alone, and at the link or tickets that it uses
abbrev pub MayHappen : Setting → World → Action → Type 0
MayHappen st w (Admit a v) = MayAdmit st a v (w.part a)
MayHappen st w (Grant a x) = MayGrant st a x (w.part a)
MayHappen st w (Send p q) = HasFirst ((w.part p).out q)
MayHappen st w (Deliver p q) = HasFirst (w.link p q)
MayHappen st w (Update s) = MayUpdate s (w.part s.home.0) w.left
MayHappen st w (Mark s) = MayMark s (w.part s.home.0)
MayHappen st w Begin = w.acknowledged ≡ w.begun
MayHappen st w (Hear a) = HasOrder (w.orders a)
MayHappen st w (SendSection a) = MaySend st a (w.part a)
MayHappen st w (Collect a) = HasSection (w.reports a)
MayHappen st w Record = MayRecord st w

-- ---- what each does

-- the first message of the outbox goes to the end of the link
abbrev pub sends : World → ℕ → ℕ → List Message → World
sends w p q [] = w
sends w p q (m ∷ behind) =
    with_link (with_part w p (record (w.part p) { out = set_at (w.part p).out q behind })) p q (w.link p q ++ m ∷ [])

-- the first message of the link is received
abbrev pub delivers : Setting → World → ℕ → ℕ → List Message → World
delivers st w p q [] = w
delivers st w p q (m ∷ behind) = with_link (with_part w q (received st q m (w.part q))) p q behind

-- an update draws the next ticket
abbrev pub draws : World → World
draws w = record w { next = suc w.next; left = pred w.left }

-- the home of the scope makes the update of this centre, under the next ticket
abbrev pub updates : Setting → World → ScopeId → Option ℕ → World
updates st w s None = w
updates st w s (Some v) =
    draws (with_part w s.home.0 (updated st s.home.0 s v (Go s.home (record { 0 = v }) w.next) (w.part s.home.0)))

-- the home of the scope makes the snapshot update of this centre
abbrev pub marks : Setting → World → ScopeId → Option ℕ → World
marks st w s None = w
marks st w s (Some v) = with_part w s.home.0 (marked st s.home.0 s v (w.part s.home.0))

-- the next snapshot begins, and each machine is to be told of it
abbrev pub begins_one : World → World
begins_one w = record w { begun = suc w.begun; orders = λ a. w.orders a ++ suc w.begun ∷ [] }

-- the machine hears of the first of these snapshots
abbrev pub hears : Setting → World → ℕ → List ℕ → World
hears st w a [] = w
hears st w a (k ∷ behind) =
    let heard : World = with_part w a (begins st a k (w.part a)) in
    record heard { orders = set_at w.orders a behind }

-- the machine sends what it saved, once for each snapshot
abbrev pub sends_section : World → ℕ → World
sends_section w a =
    let told : World = with_part w a (record (w.part a) { sent = (w.part a).known }) in
    record told { reports = set_at w.reports a (w.reports a ++ (w.part a).saved ∷ []) }

-- the coordinator has the first of these sections
abbrev pub collects : World → ℕ → List Section → World
collects w a [] = w
collects w a (section ∷ behind) = record w { reports = set_at w.reports a behind; collected = set_at w.collected a (Some section) }

-- the snapshot under way is acknowledged
abbrev pub records : World → World
records w = record w { acknowledged = w.begun; collected = λ a. None }

-- the effect of each action
abbrev pub after : Setting → World → Action → World
after st w (Admit a v) = with_part w a (admitted st a v (w.part a))
after st w (Grant a x) = with_part w a (granted st a x (w.part a))
after st w (Send p q) = sends w p q ((w.part p).out q)
after st w (Deliver p q) = delivers st w p q (w.link p q)
after st w (Update s) = updates st w s ((w.part s.home.0).flight s)
after st w (Mark s) = marks st w s ((w.part s.home.0).flight s)
after st w Begin = begins_one w
after st w (Hear a) = hears st w a (w.orders a)
after st w (SendSection a) = sends_section w a
after st w (Collect a) = collects w a (w.reports a)
after st w Record = records w

-- one action leads from a world to the next
abbrev pub IsActionStep : Setting → World → Action → World → Type 0
IsActionStep st old action new = MayHappen st old action × (new ≡ after st old action)
