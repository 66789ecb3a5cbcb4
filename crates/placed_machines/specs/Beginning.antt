-- How the machines of an attempt that takes snapshots begin.
pub use Rattle.cluster_laws.specs.cluster_model.Clusters.{BaseView, Cluster}
pub use Rattle.placement.specs.graphs.Beginnings.{IsBaseFor}
pub use Rattle.placement.specs.graphs.Placed.{IsOwnedBy, placed_owner}
pub use Rattle.coordinator.specs.machine_api.Going.{IsSnapSetting}
pub use Rattle.placed_machines.specs.any_machine.Machines.{IsAnyMachineOf, Setting}
pub use Rattle.placed_machines.specs.declared.any_machine.machines.AnyMachine.{AnyMachine}
use Rattle.std.specs.Prelude.{All, List, length, slice_index, slice_index_or, ⊤, ℕ, ◌<◌, ◌≡◌}
use Rattle.cluster_laws.specs.cluster_core.Recovering.{going_on}
use Rattle.cluster_laws.specs.cluster_core.Settings as law
use Rattle.cluster_laws.specs.cluster_model.Events.{recovers}
use Rattle.coordinator.specs.declared.coord_core.steps.Engine.{Engine}
use Rattle.coordinator.specs.declared.coord_core.steps.Engine.TheVariants.{Chromatic, Locking}
use Rattle.gl_base.specs.declared.snapshots.Base.{Base}
use Rattle.graph_core.specs.Colourings.{IsProperColouring}
use Rattle.graph_core.specs.DataGraph.{DataGraph, size}
use Rattle.machine_core.specs.machine_parts.Settings.{window_of}
use Rattle.seq_run.specs.Runs.{AreNumbers}
use Rattle.update_api.specs.Updates.{Update}
use Rattle.placed_machines.specs.declared.placing.Places.{Places}
use Rattle.placed_machines.specs.declared.placing.SavingRun.{SavingRun}

-- ---- engines

-- updates are kept apart so: scopes take locks, or vertices run by these colours
abbrev pub RunsBy : Engine → List ℕ → Setting → Type 0
RunsBy Locking colours st = st.engine ≡ law.Locking
RunsBy (Chromatic greatest) colours st = (colour : ℕ → ℕ) × (st.engine ≡ law.Chromatic colour greatest) × ((v : ℕ) → v < size st.graph → colour v ≡ slice_index_or colours v 0)

-- by colours each vertex of the graph has one, and neighbours have different ones
abbrev pub AreColoursFor : DataGraph → Engine → List ℕ → Type 0
AreColoursFor g Locking colours = ⊤
AreColoursFor g (Chromatic greatest) colours = (length colours ≡ size g) × IsProperColouring g (λ v. slice_index_or colours v 0)

-- ---- runs

-- The cluster runs this program on this graph, with these owners of the vertices, and these colours where vertices run by colours. So many
-- scopes of one machine may be in flight; snapshots are taken with this window, or without one none are.
pub record IsSavingRunOf (g : DataGraph) (program : Update) (owner : ℕ → ℕ) (colours : List ℕ) (run : SavingRun) (st : Setting) : Type 0 where
  pub setting : IsSnapSetting st
  pub engine : RunsBy run.engine colours st
  pub placed : IsOwnedBy g run.machines owner st
  pub program_is : st.program ≡ program
  pub pipeline : st.pipeline ≡ run.pipeline
  pub window : window_of st ≡ run.window

-- Each vertex of the graph is in an atom, each atom on a machine, and there are so many machines; and the colours are such that the graph may
-- run by them.
pub record ArePlacesOf (g : DataGraph) (machines : ℕ) (places : Places) : Type 0 where
  pub each : length places.of.items ≡ size g
  pub atoms : All (λ a. a.0 < length places.owner.items) places.of.items
  pub owners : All (λ m. m.0 < places.run.machines) places.owner.items
  pub colours : AreColoursFor g places.run.engine places.colours.items
  pub many : places.run.machines ≡ machines

-- the cluster runs this program on this graph, placed so
abbrev pub IsRunAt : DataGraph → Update → Places → Setting → Type 0
IsRunAt g program places st = IsSavingRunOf g program (placed_owner places.of.items places.owner.items) places.colours.items places.run st

-- the base of the law has this one's number and numbers
pub record IsBaseOf (st : Setting) (base : Base) (view : BaseView) : Type 0 where
  pub number : view.number ≡ base.number
  pub vertices : AreNumbers (size st.graph) view.numbers.vertex base.values.items
  pub edges : AreNumbers (length st.graph.edges) view.numbers.edge base.edges.items

-- each machine has admitted so many scopes
abbrev pub HaveAdmitted : Setting → List ℕ → Cluster → Type 0
HaveAdmitted st serials before = (a : ℕ) → a < st.machines → (before.machine a).part.serial ≡ slice_index serials a

-- There are as many machines as the cluster has, and each is the one of the law at its place, as an attempt begins from this base, whatever was
-- before.
pub record AreAnyMachinesOf {P : Type 0} (meaning : P → Update) (st : Setting) (view : BaseView) (before : Cluster) (placed : List (AnyMachine P)) : Type 0 where
  pub many : length placed ≡ st.machines
  pub each : (a : ℕ) (d : AnyMachine P) → a < st.machines → IsAnyMachineOf meaning (going_on st view.numbers view.number) a ((recovers st view before).machine a) (slice_index_or placed a d)

-- An attempt of the law that runs so and begins from this base, behind a cluster whose machines have admitted so many scopes, with these
-- tickets, and with so many bytes of the store in use.
pub record IsAttemptFrom (g : DataGraph) (program : Update) (owner : ℕ → ℕ) (colours : List ℕ) (run : SavingRun) (base : Base) (serials : List ℕ) (next left store_end : ℕ) : Type 0 where
  pub st : Setting
  pub view : BaseView
  pub before : Cluster
  pub runs : IsSavingRunOf g program owner colours run st
  pub of_base : IsBaseOf st base view
  pub admitted : HaveAdmitted st serials before
  pub next_is : before.next ≡ next
  pub left_is : before.left ≡ left
  pub store_end_is : (recovers st view before).coordinator.store_end ≡ store_end
