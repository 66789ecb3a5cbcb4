-- The engine of a run, and that of the law.
use Rattle.std.proofs.Common.{All, List, subst, sym, ℕ, ◌≡◌, ◌≢◌}
use Rattle.std.specs.Prelude.{slice_index_or}
use Rattle.whole_laws.specs.cluster_whole.Whole.{AreColoured}
use Rattle.coordinator.specs.declared.coord_core.steps.Engine.TheVariants.{Chromatic, Locking}
use Rattle.graph_core.specs.DataGraph.{DataGraph}
use Rattle.placed_machines.proofs.RunLemmas.{engine_of}
use Rattle.placed_machines.specs.Beginning.{AreColoursFor}
use Rattle.engine_runs.specs.attempt_machines.Beginning.{Engine, IsEngineOf, RunsBy, Setting}

-- a setting that runs by an engine has it
pub led_by : (engine : Engine) (colours : List ℕ) (st : Setting) → RunsBy engine colours st → IsEngineOf engine st.engine
led_by Locking colours st runs = runs
led_by (Chromatic greatest) colours st runs = (runs.0, runs.1)

-- neighbours have different colours, where these are for the setting's graph
pub coloured_by : (g : DataGraph) (engine : Engine) (colours : List ℕ) (st : Setting) → st.graph ≡ g → AreColoursFor g engine colours → AreColoured st (engine_of engine colours)
coloured_by g Locking colours st graph are = tt
coloured_by g (Chromatic greatest) colours st graph are = subst (λ (x : DataGraph). All (λ e. slice_index_or colours e.from 0 ≢ slice_index_or colours e.to 0) x.edges) (sym graph) are.1.apart
