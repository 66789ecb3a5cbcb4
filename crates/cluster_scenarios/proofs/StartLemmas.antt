-- The machines of a graph begin an attempt of the law.
use Rattle.std.proofs.Common.{◌≡◌, ℕ, Some, List, length, sym, ap, ◌∙◌}
use Rattle.gl_base.specs.declared.snapshots.Base.{Base}
use Rattle.graph_core.specs.DataGraph.{DataGraph, IsDataGraph, size}
use Rattle.update_api.specs.Updates.{Update}
use Rattle.coordinator.specs.coord_core.Coordinators.{IsEngineOf, StoreView}
use Rattle.coordinator.specs.declared.coord_core.steps.Engine.{Engine}
use Rattle.coordinator.specs.declared.coord_core.steps.Engine.TheVariants.{Chromatic, Locking}
use Rattle.placement.proofs.places.OwnerLemmas.{owner_low}
use Rattle.placed_machines.specs.Beginning.{ArePlacesOf, AreAnyMachinesOf, BaseView, Cluster, HaveAdmitted, IsBaseFor, IsBaseOf, IsAnyMachineOf, IsRunAt, RunsBy, Setting, placed_owner}
use Rattle.placed_machines.specs.declared.any_machine.machines.AnyMachine.{AnyMachine}
use Rattle.placed_machines.specs.declared.placing.Places.{Places}
use Rattle.placed_machines.proofs.LawLemmas.{attempt_begins}
use Rattle.placed_machines.proofs.RunLemmas.{stored_with}
use Rattle.cluster_step.specs.clusters.Clusters.{StartsSaving}

-- a setting that runs by an engine has it
led_by : (engine : Engine) (colours : List ℕ) (st : Setting) → RunsBy engine colours st → IsEngineOf engine st.engine
led_by Locking colours st runs = runs
led_by (Chromatic greatest) colours st runs = (runs.0, runs.1)

pub start_of : {P : Type 0} (meaning : P → Update) (g : DataGraph) (program : Update) (places : Places) (base : Base) (serials : List ℕ) (members : List (AnyMachine P)) (store : StoreView) (next left : ℕ) → IsDataGraph g
    → ArePlacesOf g places.run.machines places → (window : ℕ) → places.run.window ≡ Some window → IsBaseFor g base
    → ((st : Setting) (view : BaseView) (before : Cluster) → IsRunAt g program places st → IsBaseOf st base view → HaveAdmitted st serials before → AreAnyMachinesOf meaning st view before members)
    → store.vertices ≡ size g → store.edges ≡ length g.edges → store.newest ≡ base.number
    → (st : Setting) × (view : BaseView) × (before : Cluster) × StartsSaving (IsAnyMachineOf meaning) members places.run.engine (Some store) next left st view before
start_of meaning g program places base serials members store next left graph are window windowed for stand vertices edges newest =
    let of = places.of.items in
    let owner = places.owner.items in
    let at = attempt_begins g program (placed_owner of owner) places.colours.items places.run base serials next left store.store_end graph (owner_low g places.run.machines of owner are.each are.atoms are.owners) are.colours for in
    let one = stand at.st at.view at.before at.runs at.of_base at.admitted in (
      at.st,
      at.view,
      at.before,
      record {
        setting = at.runs.setting;
        led = led_by places.run.engine places.colours.items at.st at.runs.engine;
        many = one.many;
        each = one.each;
        begins = record {
          stored = (stored_with at.st window (at.runs.window ∙ windowed)).0;
          vertices = ap size at.runs.placed.graph ∙ sym vertices;
          edges = ap (λ (h : DataGraph). length h.edges) at.runs.placed.graph ∙ sym edges;
          newest = at.of_base.number ∙ sym newest;
          store_end = at.store_end_is;
        };
        first = at.next_is;
        tickets = at.left_is;
      },
    )
