-- A machine in code is a machine of the model.
use Rattle.std.specs.Bool.{⊤}
use Rattle.std.specs.Global.{Vec}
use Rattle.std.specs.Option.{option_map}
use Rattle.std.specs.Vec.{vec_capacity, vec_len}
use Rattle.std.specs.Prelude.{◌≡◌, ℕ, ◌+◌, ◌<◌, true, Option, None, Some, List, [], ◌∷◌, ◌++◌, length, map, slice_get}
use Rattle.gl_base.specs.declared.numbers.MachineNo.{MachineNo}
use Rattle.gl_base.specs.declared.numbers.Vertex.{Vertex}
use Rattle.gl_base.specs.declared.scopes.ScopeId.{ScopeId}
use Rattle.gl_base.specs.scope_lists.Scopes.{set_at, set_for}
use Rattle.graph_core.specs.DataGraph.{DataGraph, size}
use Rattle.cluster_laws.specs.cluster_core.Scopes.{own_from}
use Rattle.cluster_laws.specs.cluster_core.Settings.{Setting}
use Rattle.full_laws.specs.FullActions.{HasFirstFull}
use Rattle.full_laws.specs.FullEffects.{received_full}
use Rattle.full_laws.specs.FullMessages as model
use Rattle.full_laws.specs.FullParts.{FullPart, FullStand}
use Rattle.full_laws.specs.Items.{AVertex}
use Rattle.full_cluster.specs.declared.admitting.FullTerms.{FullTerms}
use Rattle.full_cluster.specs.declared.machines.FullMachine.{FullMachine}
use Rattle.full_cluster.specs.declared.machines.ScopeStand.{ScopeStand}
use Rattle.full_cluster.specs.declared.messages.FullMessage.{FullMessage}
use Rattle.full_cluster.specs.declared.messages.FullMessage.TheVariants as told
use Rattle.full_cluster.specs.declared.queues.FullQueue.{FullQueue}
use Rattle.full_cluster.specs.FullQueues.{AreQueuesOf, HasRoomFor, seen_in}
use Rattle.full_cluster.specs.Given.{HasNumbers, IsWithin}
use Rattle.full_cluster.specs.Orders.{IsLockOrder}
use Rattle.full_cluster.specs.ScopeMaps.{AreOnce, value_of}
use Rattle.full_cluster.specs.WholeLocks.{AreLocksOf, HasRoomAt, IsNextOf, has_vertex}

-- the scope waits at machine a where the model's scope waits
pub record IsStandOf (st : Setting) (a : ℕ) (stand : ScopeStand) (standing : FullStand) : Type 0 where
  pub centre : standing.centre ≡ stand.centre.0
  pub order : IsLockOrder st stand.centre.0 a (map (λ x. x.0) stand.part.items)
  pub lock : slice_get (map (λ x. x.0) stand.part.items) stand.place ≡ Some standing.lock
  pub rest : standing.rest ≡ map (λ b. b.0) stand.rest.items
  pub seen : standing.seen ≡ seen_in stand.seen.items

-- the scope stands nowhere at all, or there
abbrev pub StandsAs : Setting → ℕ → Option ScopeStand → Option FullStand → Type 0
StandsAs st a None None = ⊤
StandsAs st a (Some stand) (Some standing) = IsStandOf st a stand standing
StandsAs st a None (Some standing) = ⊥
StandsAs st a (Some stand) None = ⊥

-- The machine is the one of the setting that has this part.
pub record IsMachineOf (st : Setting) (m : FullMachine) (part : FullPart) : Type 0 where
  pub numbers : HasNumbers st m.me.0 m.kept part
  pub locks : AreLocksOf m.locks.locks.items part.holds part.queue
  pub lock_count : length m.locks.locks.items ≡ size st.graph
  pub log : part.log ≡ m.log.items
  pub serial : part.serial ≡ m.serial
  pub flying : part.flying ≡ m.flying
  pub flights : (s : ScopeId) → part.flight s ≡ option_map (λ (v : Vertex). v.0) (value_of m.flights.entries.items s)
  pub flights_once : AreOnce m.flights.entries.items
  pub stands : (s : ScopeId) → StandsAs st m.me.0 (value_of m.stands.entries.items s) (part.stand s)
  pub stands_once : AreOnce m.stands.entries.items
  pub ready : (s : ScopeId) → part.ready s ≡ option_map (λ (seen : Vec (Vertex × ℕ)). seen_in seen.items) (value_of m.ready.entries.items s)
  pub ready_once : AreOnce m.ready.entries.items
  pub out : AreQueuesOf st m.out.queues.items part.out

-- the scope holds no lock of the machine but those of these vertices
abbrev pub HoldsAlong : Setting → FullPart → ScopeId → List (Vertex × ℕ) → Type 0
HoldsAlong st part s pairs = (x : ℕ) → x < size st.graph → part.holds x s ≡ true → has_vertex pairs x ≡ true

-- a scope can leave for the first of these machines, or home, without memory
pub record HasRoomToLeave (m : FullMachine) (s : ScopeId) (rest : List MachineNo) : Type 0 where
  pub next : (b : MachineNo) → slice_get rest 0 ≡ Some b → (b.0 < length m.out.queues.items) × HasRoomFor m.out.queues.items b.0
  pub home : (s.home.0 < length m.out.queues.items) × HasRoomFor m.out.queues.items s.home.0
  pub ready : vec_len m.ready.entries < vec_capacity m.ready.entries

-- a scope can go on from where it stands without memory
pub record HasRoomToGoOn (m : FullMachine) (s : ScopeId) (stand : ScopeStand) : Type 0 where
  pub lock : (y : Vertex) → slice_get stand.part.items stand.place ≡ Some y → (y.0 < length m.locks.locks.items) × HasRoomAt m.locks.locks.items y.0
  pub stands : vec_len m.stands.entries < vec_capacity m.stands.entries
  pub leave : HasRoomToLeave m s stand.rest.items

-- the scope that stands there asks for the first lock from k on
pub record AsksNextFrom (st : Setting) (a : ℕ) (stand : ScopeStand) (k : ℕ) : Type 0 where
  pub order : IsLockOrder st stand.centre.0 a (map (λ x. x.0) stand.part.items)
  pub next : own_from st stand.centre.0 a k ≡ slice_get (map (λ x. x.0) stand.part.items) stand.place

-- the scope stands nowhere
abbrev pub stood_up : ScopeId → FullPart → FullPart
stood_up s part = record part { stand = set_for part.stand s None }

-- the lists and locks of the machine are as long as this graph wants
pub record IsSizedFor (m : FullMachine) (g : DataGraph) : Type 0 where
  pub numbers : length m.kept.numbers.items ≡ size g
  pub edges : length m.kept.edges.items ≡ length g.edges
  pub tasks : length m.kept.tasks.items ≡ size g
  pub locks : length m.locks.locks.items ≡ size g

-- it is the machine that it was, with queues for as many machines
pub record IsSameMachine (old new : FullMachine) : Type 0 where
  pub me : new.me ≡ old.me
  pub machines : length new.out.queues.items ≡ length old.out.queues.items

-- the machine admitted no scope meanwhile, and ended none
pub record HasSameFlights (old new : FullMachine) : Type 0 where
  pub flights : new.flights ≡ old.flights
  pub serial : new.serial ≡ old.serial
  pub flying : new.flying ≡ old.flying

-- the centre of a scope that comes and the machines to which it may go on are there, and it doesn't stand here yet
pub record CanComeIn (m : FullMachine) (s : ScopeId) (v : Vertex) (rest : List MachineNo) : Type 0 where
  pub centre : v.0 < length m.kept.numbers.items
  pub next : (b : MachineNo) → slice_get rest 0 ≡ Some b → b.0 < length m.out.queues.items
  pub home : s.home.0 < length m.out.queues.items
  pub none : value_of m.stands.entries.items s ≡ None

-- what the message names is there
abbrev pub IsReceivable : FullMachine → FullMessage → Type 0
IsReceivable m (told.Gather s v rest seen) = CanComeIn m s v rest.items
IsReceivable m (told.Home s seen) = ⊤
IsReceivable m (told.Give s gift) = IsWithin (length m.kept.numbers.items) (length m.kept.edges.items) gift

-- a scope stands nowhere here, and can go on from there without memory
pub record CanStandThere (m : FullMachine) (s : ScopeId) (stand : ScopeStand) : Type 0 where
  pub none : value_of m.stands.entries.items s ≡ None
  pub room : HasRoomToGoOn m s stand

-- the message can be received without memory, where a scope that comes with it takes these locks
abbrev pub IsPreparedFor : FullMachine → FullMessage → Vec Vertex → Type 0
IsPreparedFor m (told.Gather s v rest seen) part = CanStandThere m s (record { centre = v; part = part; place = 0; rest = rest; seen = seen })
IsPreparedFor m (told.Home s seen) part = vec_len m.ready.entries < vec_capacity m.ready.entries
IsPreparedFor m (told.Give s gift) part = IsWithin (length m.kept.numbers.items) (length m.kept.edges.items) gift

-- a scope that comes with the message to machine a takes these locks there in this order
abbrev pub IsOrderedFor : Setting → ℕ → FullMessage → List Vertex → Type 0
IsOrderedFor st a (told.Gather s v rest seen) part = IsLockOrder st v.0 a (map (λ x. x.0) part)
IsOrderedFor st a (told.Home s seen) part = ⊤
IsOrderedFor st a (told.Give s gift) part = ⊤

-- a scope whose update was made holds no lock of the machine but those of vertices that it gives
abbrev pub GivesWhatItHolds : Setting → FullPart → model.FullMessage → Type 0
GivesWhatItHolds st part (model.Gather s v rest seen) = ⊤
GivesWhatItHolds st part (model.Home s seen) = ⊤
GivesWhatItHolds st part (model.Give s gift) = (x : ℕ) → x < size st.graph → part.holds x s ≡ true → (n : ℕ) × (gift.numbers (AVertex x) ≡ Some n)

-- the first message on the link is received
pub record HasDelivered (st : Setting) (new : FullMachine) (link_new : List FullQueue) (link : ℕ → List model.FullMessage) (a : ℕ) (part : FullPart) : Type 0 where
  pub first : HasFirstFull (link a)
  pub links : AreQueuesOf st link_new (set_at link a first.behind)
  pub machine : IsMachineOf st new (received_full st a first.message part)

-- the first message of the outbox for q is behind the others on the link
pub record HasSentFrom (st : Setting) (new : FullMachine) (link_new : List FullQueue) (part : FullPart) (link : ℕ → List model.FullMessage) (q : ℕ) : Type 0 where
  pub first : HasFirstFull (part.out q)
  pub machine : IsMachineOf st new (record part { out = set_at part.out q first.behind })
  pub links : AreQueuesOf st link_new (set_at link q (link q ++ first.message ∷ []))

-- a scope stands before a lock of its list here, and the machines and locks to which it may go on then are there
pub record IsWithinAfter (m : FullMachine) (s : ScopeId) (stand : ScopeStand) : Type 0 where
  pub place : stand.place < length stand.part.items
  pub lock : (y : Vertex) → slice_get stand.part.items (stand.place + 1) ≡ Some y → y.0 < length m.locks.locks.items
  pub next : (b : MachineNo) → slice_get stand.rest.items 0 ≡ Some b → b.0 < length m.out.queues.items
  pub home : s.home.0 < length m.out.queues.items

-- the same of each scope that stands here
abbrev pub AreStandsWithin : FullMachine → Type 0
AreStandsWithin m = (s : ScopeId) (stand : ScopeStand) → value_of m.stands.entries.items s ≡ Some stand → IsWithinAfter m s stand

-- whoever waits first for the lock of x stands before it
abbrev pub AskForIt : FullPart → ℕ → Type 0
AskForIt part x = (s : ScopeId) → IsNextOf (part.holds x) (part.queue x) s → (standing : FullStand) × (part.stand s ≡ Some standing) × (standing.lock ≡ x)

-- ---- scopes that a machine admits

-- the setting has so many machines, and so many scopes of one may be in flight
pub record HasTerms (st : Setting) (terms : FullTerms) : Type 0 where
  pub machines : st.machines ≡ terms.machines
  pub pipeline : st.pipeline ≡ terms.pipeline

-- the scope that the machine admits next
abbrev pub next_scope : FullMachine → ScopeId
next_scope m = record { home = m.me; serial = m.serial }

-- the scope that the machine admits next is in flight nowhere and stands nowhere here
pub record IsNextNew (m : FullMachine) : Type 0 where
  pub flight : value_of m.flights.entries.items (next_scope m) ≡ None
  pub stand : value_of m.stands.entries.items (next_scope m) ≡ None

-- no scope is twice in one of the machine's lists
pub record AreScopesOnce (m : FullMachine) : Type 0 where
  pub flights : AreOnce m.flights.entries.items
  pub stands : AreOnce m.stands.entries.items
  pub ready : AreOnce m.ready.entries.items

-- the machine is one of so many, and has a queue for each
pub record IsOneOf (m : FullMachine) (many : ℕ) : Type 0 where
  pub me : m.me.0 < many
  pub queues : length m.out.queues.items ≡ many

-- this machine is one of so many, if it is first of these machines
abbrev pub IsFirstBelow : List MachineNo → ℕ → Type 0
IsFirstBelow list many = (b : MachineNo) → slice_get list 0 ≡ Some b → b.0 < many

-- with this message the scope of v sets out to the first of its machines
pub record IsFirstMessage (message : FullMessage) (s : ScopeId) (v : Vertex) (rest : Vec MachineNo) : Type 0 where
  pub seen : Vec (Vertex × ℕ)
  pub none : seen.items ≡ []
  pub is : message ≡ told.Gather s v rest seen
