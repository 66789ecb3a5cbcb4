-- How an order, and the cut that the newest snapshot has of it, go on.
use Rattle.std.specs.List.{AllByRecursion}
use Rattle.std.specs.Prelude.{◌≡◌, ℕ, suc, ◌+◌, ◌<◌, ◌≤◌, ◌⊎◌, List, [], ◌∷◌, ◌++◌, length, Some, ⊤}
use Rattle.gl_base.specs.declared.entries.Entry.{Entry}
use Rattle.gl_base.specs.declared.entries.Entry.TheVariants.{Go, Restart}
use Rattle.gl_base.specs.declared.numbers.MachineNo.{MachineNo}
use Rattle.graph_core.specs.DataGraph.{size}
use Rattle.cluster_laws.specs.cluster_core.Cuts.{updates_of, cut_of}
use Rattle.cluster_laws.specs.cluster_core.Marks.{mark_of}
use Rattle.cluster_laws.specs.cluster_core.Messages.{Section}
use Rattle.cluster_laws.specs.cluster_core.Ranges.{set_at}
use Rattle.cluster_laws.specs.cluster_core.Replays.{replay_of}
use Rattle.cluster_laws.specs.cluster_core.Settings.{Setting}
use Rattle.cluster_laws.specs.cluster_core.Snapshots.{IsConsistent}
use Rattle.cluster_laws.specs.cluster_core.Worlds.{World}

-- updates alone, with this ticket, the next one, and so on
abbrev pub AreUpdatesFrom : ℕ → List Entry → Type 0
AreUpdatesFrom next [] = ⊤
AreUpdatesFrom next (Go machine vertex ticket ∷ order) = (ticket ≡ next) × AreUpdatesFrom (suc next) order
AreUpdatesFrom next (Restart ticket ∷ order) = ⊥

-- the machine of an update owns its vertex
abbrev pub IsByOwner : (ℕ → ℕ) → Entry → Type 0
IsByOwner owner (Go machine vertex ticket) = machine.0 ≡ owner vertex.0
IsByOwner owner (Restart ticket) = ⊤

-- the update is of one of so many vertices
abbrev pub IsOfVertexBelow : ℕ → Entry → Type 0
IsOfVertexBelow n (Go machine vertex ticket) = vertex.0 < n
IsOfVertexBelow n (Restart ticket) = ⊤

-- ---- what one action does

-- Order, cut and tickets stay as they are.
pub record StaysSo (st : Setting) (w : World) (kept : IsConsistent st w) (new : World) (next : IsConsistent st new) : Type 0 where
  pub order : next.order ≡ kept.order
  pub count : next.count ≡ kept.count
  pub begun : new.begun ≡ w.begun
  pub drawn : new.next ≡ w.next

-- The home of a scope adds an update of its vertex, with the next ticket. The cut has it where the vertex isn't marked.
pub record UpdatesOne (st : Setting) (w : World) (kept : IsConsistent st w) (new : World) (next : IsConsistent st new) : Type 0 where
  pub machine : MachineNo
  pub vertex : ℕ
  pub within : vertex < size st.graph
  pub owned : st.owner vertex ≡ machine.0
  pub order : next.order ≡ kept.order ++ Go machine (record { 0 = vertex }) w.next ∷ []
  pub inside : st.base < w.begun → mark_of st w vertex < w.begun →
      (next.count ≡ set_at kept.count vertex (suc (kept.count vertex)))
      × (cut_of next.count next.order ≡ cut_of kept.count kept.order ++ Go machine (record { 0 = vertex }) w.next ∷ [])
  pub outside : st.base < w.begun → mark_of st w vertex ≡ w.begun →
      (next.count ≡ kept.count) × (cut_of next.count next.order ≡ cut_of kept.count kept.order)
  pub begun : new.begun ≡ w.begun
  pub drawn : new.next ≡ suc w.next

-- A snapshot begins: its cut is the whole order.
pub record BeginsOne (st : Setting) (w : World) (kept : IsConsistent st w) (new : World) (next : IsConsistent st new) : Type 0 where
  pub order : next.order ≡ kept.order
  pub count : (v : ℕ) → next.count v ≡ updates_of v kept.order
  pub whole : cut_of next.count next.order ≡ next.order
  pub begun : new.begun ≡ suc w.begun
  pub drawn : new.next ≡ w.next

-- The new world is consistent too, and its order and cut come from those before in one of these ways.
pub record IsOneStep (st : Setting) (w : World) (kept : IsConsistent st w) (new : World) : Type 0 where
  pub next : IsConsistent st new
  pub how : StaysSo st w kept new next ⊎ (UpdatesOne st w kept new next ⊎ BeginsOne st w kept new next)

-- ---- what any list of actions does

-- The new world is consistent too. Its order begins with the one before, what is new are updates by the owners of their vertices
-- with the tickets from the next one on, and of no vertex does the newest cut have fewer updates.
pub record GoesOn (st : Setting) (w : World) (kept : IsConsistent st w) (new : World) : Type 0 where
  pub next : IsConsistent st new
  pub rest : List Entry
  pub order : next.order ≡ kept.order ++ rest
  pub begun : w.begun ≤ new.begun
  pub rises : (v : ℕ) → v < size st.graph → st.base < w.begun → kept.count v ≤ next.count v
  pub tickets : AreUpdatesFrom w.next rest
  pub drawn : new.next ≡ w.next + length rest
  pub owners : AllByRecursion (IsByOwner st.owner) rest
  pub vertices : AllByRecursion (IsOfVertexBelow (size st.graph)) rest

-- ---- what is recorded

-- The sections that have come hold the numbers of this cut of the order: of each vertex its owner's section, and of each edge one
-- section at least.
pub record HoldCut (st : Setting) (w : World) (count : ℕ → ℕ) (order : List Entry) : Type 0 where
  pub vertices : (v : ℕ) → v < size st.graph →
      (section : Section) × (w.collected (st.owner v) ≡ Some section) × (section.vertices v ≡ Some ((replay_of st (cut_of count order)).vertex v))
  pub edges : (e : ℕ) → e < length st.graph.edges →
      (a : ℕ) × (section : Section) × (a < st.machines) × (w.collected a ≡ Some section) × (section.edges e ≡ Some ((replay_of st (cut_of count order)).edge e))
