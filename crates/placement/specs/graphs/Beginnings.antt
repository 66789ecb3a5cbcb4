-- The numbers with which a machine begins.
pub use Rattle.partition.specs.machine_numbers.Views.{AreTasksOf, TasksView, datum_here, edge_here, task_here, ghost_datum, is_flagged}
pub use Rattle.seq_run.specs.Runs.{AreNumbers}
pub use Rattle.seq_run.specs.States.{start_state}
use Rattle.std.specs.Prelude.{◌≡◌, ℕ, ◌<◌, ◌==◌, ◌&&◌, true, false, Option, is_some, List, [], length, nat_lt, slice_index, slice_index_or}
use Rattle.gl_base.specs.declared.scopes.Datum.{Datum}
use Rattle.gl_base.specs.declared.snapshots.Base.{Base}
use Rattle.graph_core.specs.DataGraph.{DataGraph, IsDataGraph, size}
use Rattle.update_api.specs.Updates.{Update}
use Rattle.cluster_laws.specs.cluster_core.Scopes.{takes_part}
use Rattle.partition.specs.local_parts.Parts.{is_ghost_of}
use Rattle.partition.specs.declared.machine_numbers.keeping.Numbers.{Numbers}
use Rattle.placement.specs.graphs.Placed.{AreIn, AreUnsetParts, IsLocalOf, IsUnsetPart, LocalView, Setting}

-- the datum of a vertex as it begins: its number is in this list
abbrev pub first_datum : List ℕ → ℕ → ℕ → Datum
first_datum values mark v = record { value = slice_index values v; version = 0; mark = mark }

-- the base has a number for each vertex and for each edge of the graph
pub record IsBaseFor (g : DataGraph) (base : Base) : Type 0 where
  pub vertices : length base.values.items ≡ size g
  pub edges : length base.edges.items ≡ length g.edges

-- the machine holds its part of a graph for which the base is
pub record CanBegin (l : LocalView) (base : Base) : Type 0 where
  pub st : Setting
  pub graph : IsDataGraph st.graph
  pub part : IsUnsetPart st l.me.0 l
  pub numbers : IsBaseFor st.graph base

-- the run begins with the numbers of the base, and with its snapshot
pub record BeginsWith (st : Setting) (base : Base) : Type 0 where
  pub vertices : AreNumbers (size st.graph) st.start.vertex base.values.items
  pub edges : AreNumbers (length st.graph.edges) st.start.edge base.edges.items
  pub number : st.base ≡ base.number

-- the base from which a first run begins: the numbers with which the program starts, no snapshot and no updates
pub record IsFirstBase (g : DataGraph) (program : Update) (base : Base) : Type 0 where
  pub vertices : AreNumbers (size g) (start_state g program).vertex base.values.items
  pub edges : AreNumbers (length g.edges) (start_state g program).edge base.edges.items
  pub number : base.number ≡ 0
  pub order : base.order.items ≡ []
  pub length : base.length ≡ 0

-- nothing is pending or admitted, and no update was made
pub record AreFreshTasks (window : Option ℕ) (t : TasksView) : Type 0 where
  pub pending : (u : ℕ) → is_flagged t.pending u ≡ false
  pub admitted : (u : ℕ) → is_flagged t.admitted u ≡ false
  pub planned : (u : ℕ) → is_flagged t.planned u ≡ false
  pub asked : t.asked ≡ []
  pub plans : t.plans ≡ 0
  pub outside : t.outside ≡ 0
  pub bound : t.window ≡ window
  pub flags : length t.admitted ≡ length t.task

-- The numbers, the tasks and the log of machine a are those with which the run begins: of each vertex of which it keeps a datum,
-- of each edge, its own vertices are the tasks, and no update was made.
pub record AreFirstNumbers (st : Setting) (a : ℕ) (n : Numbers) : Type 0 where
  pub vertices : (v : ℕ) → v < size st.graph → takes_part st v a ≡ true → datum_here n v ≡ record { value = st.start.vertex v; version = 0; mark = st.base }
  pub edges : (e : ℕ) → e < length st.graph.edges → edge_here n e ≡ st.start.edge e
  pub tasks : (u : ℕ) → task_here n u ≡ (nat_lt u (size st.graph) && st.owner u == a)
  pub log : n.log.items ≡ []

-- What machine a holds is its part of the graph with each row in, its tasks have the places of its own vertices, one for each, and
-- it keeps a copy of the datum of each of its ghosts.
pub record IsReadyPart (st : Setting) (a : ℕ) (n : Numbers) : Type 0 where
  pub machine : n.local.me.0 ≡ a
  pub local : IsLocalOf st n.local
  pub rows : AreIn n.local
  pub tasks_of : AreTasksOf n.local n.tasks
  pub many : length n.tasks.task ≡ length n.local.owned
  pub copies : (x : ℕ) → is_some (ghost_datum n.ghosts x) ≡ (nat_lt x (size st.graph) && is_ghost_of st a x)

-- machine a begins as the run does, with its part of the graph
pub record BeginsAt (st : Setting) (a : ℕ) (window : Option ℕ) (n : Numbers) : Type 0 where
  pub numbers : AreFirstNumbers st a n
  pub part : IsReadyPart st a n
  pub fresh : AreFreshTasks window n.tasks

-- ---- all machines

-- these are the parts of a graph for which the base is
pub record CanEachMachineStart (parts : List LocalView) (base : Base) : Type 0 where
  pub st : Setting
  pub graph : IsDataGraph st.graph
  pub are_parts : AreUnsetParts st parts
  pub numbers : IsBaseFor st.graph base

-- each machine begins so, in turn
pub record EachMachineStarts (st : Setting) (window : Option ℕ) (all : List Numbers) : Type 0 where
  pub count : length all ≡ st.machines
  pub each : (a : ℕ) (d : Numbers) → a < st.machines → BeginsAt st a window (slice_index_or all a d)
