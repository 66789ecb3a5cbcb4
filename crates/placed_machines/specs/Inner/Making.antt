-- What the machines of an attempt are made with.
pub use Rattle.cluster_laws.specs.cluster_model.Clusters.{Cluster}
pub use Rattle.cluster_laws.specs.cluster_model.Machines.{Machine}
pub use Rattle.cluster_laws.specs.cluster_model.Working.{goes_back}
pub use Rattle.snapshot_machines.specs.chromatic.Machines.{with_locking}
pub use Rattle.placement.specs.places.Cores.{GoesBy}
pub use Rattle.placement.specs.graphs.Beginnings.{BeginsWith}
pub use Rattle.placement.specs.graphs.Placed.{AreUnsetParts, IsUnsetPart, LocalView}
pub use Rattle.update_api.specs.Updates.{Update}
pub use Rattle.placed_machines.specs.Beginning.{AreColoursFor, AnyMachine, HaveAdmitted, IsAnyMachineOf, IsOwnedBy, RunsBy, Setting}
use Rattle.std.specs.Prelude.{Bool, List, false, length, slice_index_or, true, ℕ, ◌<◌, ◌≡◌}
use Rattle.cluster_laws.specs.cluster_core.Settings.{IsSetting}
use Rattle.coordinator.specs.declared.coord_core.steps.Engine.{Engine}
use Rattle.coordinator.specs.declared.coord_core.steps.Engine.TheVariants.{Chromatic, Locking}
use Rattle.gl_base.specs.declared.snapshots.Base.{Base}
use Rattle.graph_core.specs.DataGraph.{DataGraph}
use Rattle.machine_core.specs.machine_parts.Settings.{window_of}
use Rattle.placement.specs.declared.places.cores.NewTerms.{NewTerms}
use Rattle.placed_machines.specs.declared.placing.Places.{Places}
use Rattle.placed_machines.specs.declared.placing.SavingRun.{SavingRun}

-- ---- settings

-- whether scopes take locks
abbrev pub takes_locks : Engine → Bool
takes_locks Locking = true
takes_locks (Chromatic greatest) = false

-- the cluster runs so, and begins from this base
pub record IsRunFrom (g : DataGraph) (program : Update) (owner : ℕ → ℕ) (colours : List ℕ) (run : SavingRun) (base : Base) (st : Setting) : Type 0 where
  pub is : IsSetting st
  pub engine : RunsBy run.engine colours st
  pub placed : IsOwnedBy g run.machines owner st
  pub program_is : st.program ≡ program
  pub pipeline : st.pipeline ≡ run.pipeline
  pub window : window_of st ≡ run.window
  pub begins : BeginsWith st base

-- The cluster goes by these terms, but for its engine, and that is the one of the places; it takes snapshots with the window of the places,
-- runs this program, and begins from this base.
pub record SavesBy (st : Setting) (program : Update) (base : Base) (terms : NewTerms) (places : Places) : Type 0 where
  pub goes : GoesBy (with_locking st) places.run.window terms
  pub locks : terms.terms.locks ≡ takes_locks places.run.engine
  pub engine : RunsBy places.run.engine places.colours.items st
  pub window_is : places.run.window ≡ window_of st
  pub program_is : st.program ≡ program
  pub begins : BeginsWith st base

-- ---- parts

-- this is a part of the graph of some such cluster, which may run by the colours
pub record CanSave (l : LocalView) (program : Update) (base : Base) (terms : NewTerms) (places : Places) : Type 0 where
  pub st : Setting
  pub saves : SavesBy st program base terms places
  pub colours : AreColoursFor st.graph places.run.engine places.colours.items
  pub unset : IsUnsetPart (with_locking st) l.me.0 l

-- these are the parts of the graph of such a cluster
pub record CanAllSave (parts : List LocalView) (program : Update) (base : Base) (terms : NewTerms) (places : Places) : Type 0 where
  pub st : Setting
  pub saves : SavesBy st program base terms places
  pub colours : AreColoursFor st.graph places.run.engine places.colours.items
  pub unset : AreUnsetParts (with_locking st) parts

-- each machine is the one of the law at its place that has gone back to the numbers with which the run begins
pub record StandFirst {P : Type 0} (meaning : P → Update) (st : Setting) (before : Cluster) (placed : List (AnyMachine P)) : Type 0 where
  pub many : length placed ≡ st.machines
  pub each : (a : ℕ) (d : AnyMachine P) → a < st.machines → IsAnyMachineOf meaning st a (goes_back st st.start st.base a (before.machine a)) (slice_index_or placed a d)
