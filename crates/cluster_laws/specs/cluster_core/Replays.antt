-- The numbers and tasks of a cluster are those of its order, replayed one entry at a time.
use Rattle.std.specs.List.{AllByRecursion}
use Rattle.std.specs.Prelude.{Bool, List, false, filter, length, true, ℕ, ◌<◌, ◌==◌, ◌↔◌, ◌≡◌, ◌⊎◌}
use Rattle.gl_base.specs.declared.entries.Entry.{Entry}
use Rattle.gl_base.specs.declared.entries.Entry.TheVariants.{Go, Restart}
use Rattle.cluster_laws.specs.cluster_core.Copies.{agreed}
use Rattle.cluster_laws.specs.cluster_core.Parts.{Part, lent}
use Rattle.cluster_laws.specs.cluster_core.Settings.{Setting}
use Rattle.cluster_laws.specs.cluster_core.Ways.{vertex_woken}
use Rattle.cluster_laws.specs.cluster_core.Worlds.{World, way}
use Rattle.graph_core.specs.DataGraph.{size}
use Rattle.graph_core.specs.Halves.{halves_of}
use Rattle.seq_run.specs.Orders.{IsValidFrom, all_tasks, replay_from, tasks_from}
use Rattle.seq_run.specs.States.{GraphState, near_of}

-- the entry is an update of this machine
abbrev pub is_of : ℕ → Entry → Bool
is_of a (Go machine vertex ticket) = machine.0 == a
is_of a (Restart ticket) = false

-- the ticket of an entry
abbrev pub ticket_of : Entry → ℕ
ticket_of (Go machine vertex ticket) = ticket
ticket_of (Restart ticket) = ticket

-- the entries of this machine, in their order
abbrev pub entries_of : ℕ → List Entry → List Entry
entries_of a order = filter (is_of a) order

-- the numbers and the tasks after an order, from the numbers on that the run began with; at first every vertex is a task
abbrev pub replay_of : Setting → List Entry → GraphState
replay_of st order = replay_from st.graph st.program st.start order

-- the tasks after an order
abbrev pub tasks_of : Setting → List Entry → ℕ → Bool
tasks_of st order = tasks_from st.graph st.program st.start (all_tasks st.graph) order

-- u is a task of its owner, or will be as soon as what is on the way has come
abbrev pub IsTask : Setting → World → ℕ → Type 0
IsTask st w u =
    ((w.part (st.owner u)).task u ≡ true) ⊎ ((p : ℕ) × (vertex_woken u (way w p (st.owner u)) ≡ true))

-- The numbers and the tasks of the cluster are those of the order, and its logs are the parts of the order.
pub record IsReplay (st : Setting) (w : World) (order : List Entry) : Type 0 where
  -- each update of the order found its vertex among the tasks
  pub valid : IsValidFrom st.graph st.program st.start (all_tasks st.graph) order
  -- each machine's log is its part of the order
  pub logs : (a : ℕ) → (w.part a).log ≡ entries_of a order
  -- each ticket was drawn
  pub tickets : AllByRecursion (λ entry. ticket_of entry < w.next) order
  pub numbers : (v : ℕ) → v < size st.graph → ((w.part (st.owner v)).datum v).value ≡ (replay_of st order).vertex v
  pub edges : (e : ℕ) → e < length st.graph.edges → agreed st w e ≡ (replay_of st order).edge e
  pub tasks : (u : ℕ) → u < size st.graph → (tasks_of st order u ≡ true) ↔ IsTask st w u

-- what a machine lends to an update of v is what these numbers have there: of v, of its edges and of its neighbours
pub record IsFresh (st : Setting) (numbers : GraphState) (part : Part) (v : ℕ) : Type 0 where
  pub own : (lent part).vertex v ≡ numbers.vertex v
  pub near : AllByRecursion (λ half. near_of (lent part) half ≡ near_of numbers half) (halves_of st.graph v)
