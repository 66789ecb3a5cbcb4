-- There is an attempt that begins as it is to.
use Rattle.std.proofs.Common.{◌≡◌, ◌+◌, ◌*◌, ◌<◌, ℕ, List, refl, slice_index, arith}
use Rattle.whole_laws.specs.cluster_ending.FourWaves.{fresh_cluster, fresh_machine, fresh_part}
use Rattle.cluster_laws.specs.cluster_model.Leading.{first_coordinator}
use Rattle.cluster_laws.specs.cluster_model.Totals.{total}
use Rattle.cluster_laws.specs.cluster_core.Settings.{IsSetting}
use Rattle.coordinator.specs.declared.coord_core.steps.Engine.{Engine}
use Rattle.coordinator.specs.declared.coord_core.steps.Engine.TheVariants.{Chromatic, Locking}
use Rattle.gl_base.specs.declared.snapshots.Base.{Base}
use Rattle.graph_core.specs.DataGraph.{DataGraph, IsDataGraph, size}
use Rattle.update_api.specs.Updates.{Update}
use Rattle.snapshot_machines.proofs.wave_counts.CountLemmas.{total_from-nothing}
use Rattle.placed_machines.specs.Beginning.{AreColoursFor, BaseView, Cluster, IsAttemptFrom, IsBaseFor, IsSnapSetting, Setting}
use Rattle.placed_machines.specs.declared.placing.SavingRun.{SavingRun}
use Rattle.placed_machines.proofs.RunLemmas.{engine_of, run_setting, runs_by, window_back}

-- machines that have admitted so many scopes and done nothing else
abbrev cluster_behind : Setting → List ℕ → ℕ → ℕ → ℕ → Cluster
cluster_behind st serials next left store_end =
    record (fresh_cluster st) {
      machine = λ a. record fresh_machine { part = record fresh_part { serial = slice_index serials a } };
      coordinator = first_coordinator st 0 store_end;
      next = next;
      left = left;
    }

none_more : (n failed : ℕ) → failed ≡ 0 → n + 16 * failed ≡ n
none_more n failed none = omega (arith, none)

abbrev base_seen : Base → BaseView
base_seen base = record { number = base.number; order = base.order.items; numbers = record { vertex = slice_index base.values.items; edge = slice_index base.edges.items } }

-- by colours of which neighbours have different ones the setting is one of a cluster as well
snap_setting : (e : Engine) (colours : List ℕ) (st : Setting) → IsSetting st → AreColoursFor st.graph e colours → IsSnapSetting (record st { engine = engine_of e colours })
snap_setting Locking colours st is are = record { is = record { graph = is.graph; owner = is.owner }; coloured = tt }
snap_setting (Chromatic greatest) colours st is are = record { is = record { graph = is.graph; owner = is.owner }; coloured = are.1.apart }

pub attempt_begins : (g : DataGraph) (program : Update) (owner : ℕ → ℕ) (colours : List ℕ) (run : SavingRun) (base : Base) (serials : List ℕ) (next left store_end : ℕ) →
    IsDataGraph g → ((v : ℕ) → v < size g → owner v < run.machines) → AreColoursFor g run.engine colours → IsBaseFor g base → IsAttemptFrom g program owner colours run base serials next left store_end
attempt_begins g program owner colours run base serials next left store_end graph low are for =
    let st = run_setting g program owner colours run base in
    record {
      st = st;
      view = base_seen base;
      before = cluster_behind st serials next left store_end;
      runs = record {
        setting = snap_setting run.engine colours st (record { graph = graph; owner = low }) are;
        engine = runs_by run.engine colours st refl;
        placed = record { graph = refl; machines = refl; owners = λ v inside. refl };
        program_is = refl;
        pipeline = refl;
        window = window_back run.window;
      };
      of_base = record {
        number = refl;
        vertices = record { count = for.vertices; each = λ k inside. refl };
        edges = record { count = for.edges; each = λ k inside. refl };
      };
      admitted = λ a inside. refl;
      next_is = refl;
      left_is = refl;
      store_end_is = none_more store_end (total run.machines (λ a. 0)) (total_from-nothing 0 run.machines (λ a. 0) (λ a. refl));
    }
