-- What machines tell one another, as lists.
use Rattle.std.specs.Prelude.{◌≡◌, ◌<◌, ◌≤◌, ◌==◌, ℕ, Option, None, Some, List, [], ◌∷◌, ◌++◌, if◌then◌else◌, length, map, slice_get, slice_index_or}
use Rattle.std.specs.VecDeque.{deque_capacity}
use Rattle.gl_base.specs.declared.numbers.Vertex.{Vertex}
use Rattle.gl_base.specs.scope_lists.Scopes.{set_at}
use Rattle.graph_core.specs.DataGraph.{size}
use Rattle.cluster_laws.specs.cluster_core.Settings.{Setting}
use Rattle.full_laws.specs.FullActions.{HasFirstFull}
use Rattle.full_laws.specs.FullMessages as model
use Rattle.full_laws.specs.FullMessages.{Gift}
use Rattle.full_cluster.specs.declared.messages.FullMessage.{FullMessage}
use Rattle.full_cluster.specs.declared.messages.FullMessage.TheVariants as told
use Rattle.full_cluster.specs.declared.queues.FullQueue.{FullQueue}
use Rattle.full_cluster.specs.Given.{IsGift, IsWithin}

-- the number of x when these were gathered one after another
abbrev pub seen_after : List (Vertex × ℕ) → ℕ → Option ℕ → Option ℕ
seen_after [] x here = here
seen_after (pair ∷ pairs) x here = seen_after pairs x (if pair.0.0 == x then Some pair.1 else here)

-- what the list says was gathered
abbrev pub seen_in : List (Vertex × ℕ) → ℕ → Option ℕ
seen_in pairs x = seen_after pairs x None

-- the message says what the model's message says
abbrev pub IsMessage : Setting → FullMessage → model.FullMessage → Type 0
IsMessage st (told.Gather s v rest seen) m = m ≡ model.Gather s v.0 (map (λ b. b.0) rest.items) (seen_in seen.items)
IsMessage st (told.Home s seen) m = m ≡ model.Home s (seen_in seen.items)
IsMessage st (told.Give s gift) m = (given : Gift) × (m ≡ model.Give s given) × IsGift st gift given × IsWithin (size st.graph) (length st.graph.edges) gift

-- the same of lists, one by one
abbrev pub AreMessages : Setting → List FullMessage → List model.FullMessage → Type 0
AreMessages st [] ms = ms ≡ []
AreMessages st (c ∷ cs) ms = (m : model.FullMessage) × (behind : List model.FullMessage) × (ms ≡ m ∷ behind) × IsMessage st c m × AreMessages st cs behind

-- these messages are in the queues, and there are no others
pub record AreQueuesOf (st : Setting) (queues : List FullQueue) (out : ℕ → List model.FullMessage) : Type 0 where
  pub each : (q : ℕ) (d : FullQueue) → q < length queues → AreMessages st (slice_index_or queues q d).messages.items (out q)
  pub beyond : (q : ℕ) → length queues ≤ q → out q ≡ []

-- one more message can be put into the queue without memory
abbrev pub HasRoomToPut : FullQueue → Type 0
HasRoomToPut queue = length queue.messages.items < deque_capacity queue.messages

-- the same of queue q
abbrev pub HasRoomFor : List FullQueue → ℕ → Type 0
HasRoomFor queues q = (d : FullQueue) → HasRoomToPut (slice_index_or queues q d)

-- the message is the first of queue q
pub record IsFirstIn (queues : List FullQueue) (q : ℕ) (message : FullMessage) : Type 0 where
  pub inside : q < length queues
  pub first : (d : FullQueue) → slice_get (slice_index_or queues q d).messages.items 0 ≡ Some message

-- the message was the first of queue q
pub record HasTakenFirst (st : Setting) (new : List FullQueue) (out : ℕ → List model.FullMessage) (q : ℕ) (message : FullMessage) : Type 0 where
  pub first : HasFirstFull (out q)
  pub is : IsMessage st message first.message
  pub after : AreQueuesOf st new (set_at out q first.behind)

-- the first message of queue q in the outbox is behind the others on link q
pub record HasSent (st : Setting) (out_new link_new : List FullQueue) (out link : ℕ → List model.FullMessage) (q : ℕ) : Type 0 where
  pub first : HasFirstFull (out q)
  pub outbox : AreQueuesOf st out_new (set_at out q first.behind)
  pub links : AreQueuesOf st link_new (set_at link q (link q ++ first.message ∷ []))
