-- What is saved for a snapshot is the replay of a cut of the order.
use Rattle.std.specs.Prelude.{List, Some, [], if◌then◌else◌, length, pred, suc, true, ℕ, ◌++◌, ◌<◌, ◌==◌, ◌∷◌, ◌≡◌, ◌≤◌, ◌⊎◌}
use Rattle.gl_base.specs.declared.entries.Entry.{Entry}
use Rattle.gl_base.specs.declared.entries.Entry.TheVariants.{Go, Restart}
use Rattle.cluster_laws.specs.cluster_core.Marks.{mark_of, vertex_named}
use Rattle.cluster_laws.specs.cluster_core.Ranges.{set_at}
use Rattle.cluster_laws.specs.cluster_core.Replays.{replay_of, tasks_of}
use Rattle.cluster_laws.specs.cluster_core.Settings.{Setting, nth_edge, is_near}
use Rattle.cluster_laws.specs.cluster_core.Worlds.{World, way}
use Rattle.graph_core.specs.DataGraph.{size}
use Rattle.seq_run.specs.Orders.{IsValidFrom, all_tasks}

-- how many updates of v the order has
abbrev pub updates_of : ℕ → List Entry → ℕ
updates_of v [] = 0
updates_of v (Restart ticket ∷ order) = updates_of v order
updates_of v (Go machine vertex ticket ∷ order) = if vertex.0 == v then suc (updates_of v order) else updates_of v order

-- the order without each update of v that is not among the first count(v)
abbrev pub cut_of : (ℕ → ℕ) → List Entry → List Entry
cut_of count [] = []
cut_of count (Restart ticket ∷ order) = Restart ticket ∷ cut_of count order
cut_of count (Go machine vertex ticket ∷ order) =
    if count vertex.0 == 0
    then cut_of count order
    else Go machine vertex ticket ∷ cut_of (set_at count vertex.0 (pred (count vertex.0))) order

-- the updates of v, in their order
abbrev pub updates_at : ℕ → List Entry → List Entry
updates_at v [] = []
updates_at v (Restart ticket ∷ order) = updates_at v order
updates_at v (Go machine vertex ticket ∷ order) = if vertex.0 == v then Go machine vertex ticket ∷ updates_at v order else updates_at v order

-- the first list begins the second
abbrev pub Begins : List Entry → List Entry → Type 0
Begins front whole = (rest : List Entry) × (whole ≡ front ++ rest)

-- an end of edge e has the mark of the newest snapshot
abbrev pub HasMarkedEnd : Setting → World → ℕ → Type 0
HasMarkedEnd st w e = (mark_of st w (nth_edge st e).from ≡ w.begun) ⊎ (mark_of st w (nth_edge st e).to ≡ w.begun)

-- u will have the mark: it is pending, or word of that is on the way to its owner
abbrev pub IsToBeMarked : Setting → World → ℕ → Type 0
IsToBeMarked st w u =
    ((w.part (st.owner u)).pending u ≡ true) ⊎ ((p : ℕ) × (vertex_named u (way w p (st.owner u)) ≡ true))

-- For the newest snapshot that was begun: the cut has of each marked vertex the updates before its mark, and all updates of the
-- others.
pub record IsCut (st : Setting) (w : World) (order : List Entry) (count : ℕ → ℕ) : Type 0 where
  pub few : (v : ℕ) → v < size st.graph → count v ≤ updates_of v order
  pub all : (v : ℕ) → v < size st.graph → mark_of st w v < w.begun → count v ≡ updates_of v order
  pub valid : IsValidFrom st.graph st.program st.start (all_tasks st.graph) (cut_of count order)
  -- what is saved is the cut's, and all else is the same in the cut as in the whole order
  pub vertices_saved : (v : ℕ) → v < size st.graph → mark_of st w v ≡ w.begun →
      (w.part (st.owner v)).saved.vertices v ≡ Some ((replay_of st (cut_of count order)).vertex v)
  pub vertices_else : (v : ℕ) → v < size st.graph → mark_of st w v < w.begun →
      (replay_of st (cut_of count order)).vertex v ≡ (replay_of st order).vertex v
  pub edges_saved : (a e x : ℕ) → a < st.machines → e < length st.graph.edges → (w.part a).known ≡ w.begun → (w.part a).saved.edges e ≡ Some x →
      ((replay_of st (cut_of count order)).edge e ≡ x) × HasMarkedEnd st w e
  pub edges_found : (e : ℕ) → e < length st.graph.edges → HasMarkedEnd st w e →
      (a : ℕ) × (x : ℕ) × (a < st.machines) × ((w.part a).known ≡ w.begun) × ((w.part a).saved.edges e ≡ Some x)
  pub edges_else : (e : ℕ) → e < length st.graph.edges → mark_of st w (nth_edge st e).from < w.begun → mark_of st w (nth_edge st e).to < w.begun →
      (replay_of st (cut_of count order)).edge e ≡ (replay_of st order).edge e
  -- a vertex with no marked vertex around it is a task of the cut where it is one of the whole order
  pub tasks : (v : ℕ) → v < size st.graph → mark_of st w v < w.begun → ((u : ℕ) → is_near st v u ≡ true → mark_of st w u < w.begun) →
      tasks_of st (cut_of count order) v ≡ tasks_of st order v
  -- each neighbour of a marked vertex is marked, or will be
  pub spread : (v u : ℕ) → v < size st.graph → mark_of st w v ≡ w.begun → is_near st v u ≡ true →
      (mark_of st w u ≡ w.begun) ⊎ IsToBeMarked st w u
