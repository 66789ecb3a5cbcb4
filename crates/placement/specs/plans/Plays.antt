-- Runs of a program on a graph that is placed on machines.
pub use Rattle.graph_atoms.specs.atom_gather.Cuts.{IsCutBy, IsGrowthCut, atom_numbers, atoms_of}
pub use Rattle.graph_atoms.specs.atom_place.Placing.{IsPlacing}
pub use Rattle.cluster_laws.specs.cluster_cuts.Goings.{AreUpdatesFrom, IsByOwner}
pub use Rattle.local_graph.specs.Locals.{machine_numbers}
pub use Rattle.cluster_laws.specs.merged_logs.Merges.{is_of}
pub use Rattle.placement.specs.graphs.Placed.{placed_owner}
pub use Rattle.placement.specs.graphs.Weights.{atom_weights}
use Rattle.std.specs.List.{AllByRecursion}
use Rattle.std.specs.Prelude.{◌≡◌, ℕ, ◌<◌, ◌≤◌, true, List, length, Option, MatchOption, count_by}
use Rattle.graph_atoms.specs.declared.atom_gather.cuts.Cut.{Cut}
use Rattle.gl_base.specs.Lists.{AreEach}
use Rattle.gl_base.specs.declared.entries.Entry.{Entry}
use Rattle.gl_base.specs.declared.numbers.AtomNo.{AtomNo}
use Rattle.gl_base.specs.declared.numbers.MachineNo.{MachineNo}
use Rattle.gl_base.specs.declared.numbers.Vertex.{Vertex}
use Rattle.graph_core.specs.DataGraph.{DataGraph, size}
use Rattle.seq_run.specs.Orders.{IsFinished, IsValidOrder, replay, tasks_after}
use Rattle.seq_run.specs.Runs.{AreNumbers}
use Rattle.update_api.specs.Updates.{Update}

-- The graph is cut so into atoms, and these are placed on so many machines by what they weigh. Each machine owns the vertices of its
-- atoms.
pub record IsCutAndPlaced (g : DataGraph) (cut : Cut) (machines : ℕ) (owner : ℕ → ℕ) : Type 0 where
  pub of : List AtomNo
  pub on : List MachineNo
  pub by : IsCutBy g cut (atom_numbers of)
  pub placing : IsPlacing (atom_weights g (atom_numbers of) (atoms_of cut)) machines (machine_numbers on)
  pub owns : (v : ℕ) → owner v ≡ placed_owner of on v

-- the owner of each vertex: one machine owns all of them, and several own those of their atoms
pub record IsPlacement (g : DataGraph) (cut : Cut) (machines : ℕ) (owner : ℕ → ℕ) : Type 0 where
  pub one : machines ≡ 1 → (v : ℕ) → owner v ≡ 0
  pub several : 1 < machines → IsCutAndPlaced g cut machines owner

-- The order is valid, its tickets are 0, 1, 2 and so on, the owner of its vertex made each update, and its replay gives the numbers.
pub record IsPlay (g : DataGraph) (p : Update) (cut : Cut) (machines : ℕ) (order : List Entry) (numbers : List ℕ) : Type 0 where
  pub valid : IsValidOrder g p order
  pub tickets : AreUpdatesFrom 0 order
  pub owner : ℕ → ℕ
  pub placement : IsPlacement g cut machines owner
  pub owners : AllByRecursion (IsByOwner owner) order
  pub numbers_are : AreNumbers (size g) (replay g p order).vertex numbers

-- So many updates were made as the budget has, and the vertex is a task all the same.
pub record IsSpent (g : DataGraph) (p : Update) (budget : ℕ) (order : List Entry) (left : Vertex) : Type 0 where
  pub spent : length order ≡ budget
  pub inside : left.0 < size g
  pub task : tasks_after g p order left.0 ≡ true

-- A run of no more updates than the budget has: it left no task, or its budget is spent.
pub record RunsTo (g : DataGraph) (p : Update) (cut : Cut) (machines budget : ℕ) (order : List Entry) (numbers : List ℕ) (left : Option Vertex) : Type 0 where
  pub play : IsPlay g p cut machines order numbers
  pub few : length order ≤ budget
  pub ended : MatchOption left (IsFinished g p order) (IsSpent g p budget order)

-- for each of so many machines, how many updates of the order it made
abbrev pub CountsByMachine : ℕ → List Entry → List ℕ → Type 0
CountsByMachine machines order done = AreEach machines (λ a count. count ≡ count_by (is_of a) order) done
