-- The settings in which an attempt begins.
use Rattle.std.proofs.Common.{◌≡◌, ◌<◌, ℕ, ◌∙◌, Bool, true, false, if◌then◌else◌, Option, Some, None, List, length, All, ap, sym, subst, refl, slice_index}
use Rattle.std.specs.Prelude.{is_some, slice_index_or}
use Rattle.cluster_laws.specs.cluster_core.Recovering.{going_on}
use Rattle.cluster_laws.specs.cluster_core.Settings as law
use Rattle.coordinator.specs.declared.coord_core.steps.Engine.{Engine}
use Rattle.coordinator.specs.declared.coord_core.steps.Engine.TheVariants.{Chromatic, Locking}
use Rattle.gl_base.specs.declared.numbers.AtomNo.{AtomNo}
use Rattle.gl_base.specs.declared.numbers.MachineNo.{MachineNo}
use Rattle.gl_base.specs.declared.snapshots.Base.{Base}
use Rattle.graph_core.specs.DataGraph.{DataGraph, IsDataGraph, size}
use Rattle.machine_core.specs.machine_parts.Settings.{window_of}
use Rattle.placement.proofs.places.OwnerLemmas.{owner_low}
use Rattle.placement.specs.declared.places.cores.NewTerms.{NewTerms}
use Rattle.placed_machines.specs.Beginning.{AreColoursFor, AreAnyMachinesOf, BaseView, IsBaseFor, IsBaseOf, IsSavingRunOf, placed_owner}
use Rattle.placed_machines.specs.Inner.Making.{AreUnsetParts, CanAllSave, Cluster, AnyMachine, GoesBy, IsOwnedBy, IsRunFrom, LocalView, RunsBy, SavesBy, Setting, StandFirst, Update, takes_locks, with_locking}
use Rattle.placed_machines.specs.declared.placing.Places.{Places}
use Rattle.placed_machines.specs.declared.placing.SavingRun.{SavingRun}

-- ---- engines

-- the engine of the law
abbrev pub engine_of : Engine → List ℕ → law.Engine
engine_of Locking colours = law.Locking
engine_of (Chromatic greatest) colours = law.Chromatic (λ v. slice_index_or colours v 0) greatest

pub runs_by : (e : Engine) (colours : List ℕ) (st : Setting) → st.engine ≡ engine_of e colours → RunsBy e colours st
runs_by Locking colours st is = is
runs_by (Chromatic greatest) colours st is = ((λ v. slice_index_or colours v 0), is, λ v low. refl)

-- ---- one setting

-- how many updates a window has, 0 where there is none
abbrev pub window_or : Option ℕ → ℕ
window_or None = 0
window_or (Some window) = window

pub window_back : (window : Option ℕ) → (if is_some window then Some (window_or window) else None) ≡ window
window_back None = refl
window_back (Some window) = refl

same_in : (one other : ℕ) → Some one ≡ Some other → one ≡ other
same_in one other is = cc

none_in : (window : ℕ) → None ≡ Some window → ⊥
none_in window is = cc

some_in : (window : ℕ) → Some window ≡ None → ⊥
some_in window is = cc

stored_by : (b : Bool) (k window : ℕ) → (if b then Some k else None) ≡ Some window → (b ≡ true) × (k ≡ window)
stored_by true k window is = (refl, same_in k window is)
stored_by false k window is = absurd (none_in window is)

-- with a window snapshots are taken
pub stored_with : (st : Setting) (window : ℕ) → window_of st ≡ Some window → (st.stored ≡ true) × (st.window ≡ window)
stored_with st window is = stored_by st.stored st.window window is

unstored_by : (b : Bool) (k : ℕ) → (if b then Some k else None) ≡ None → b ≡ false
unstored_by true k is = absurd (some_in k is)
unstored_by false k is = refl

-- and without one none are
pub unstored_with : (st : Setting) → window_of st ≡ None → st.stored ≡ false
unstored_with st is = unstored_by st.stored st.window is

-- in which the attempt begins
abbrev pub run_setting : DataGraph → Update → (ℕ → ℕ) → List ℕ → SavingRun → Base → Setting
run_setting g program owner colours run base =
    record {
      graph = g;
      program = program;
      owner = owner;
      machines = run.machines;
      pipeline = run.pipeline;
      engine = engine_of run.engine colours;
      stored = is_some run.window;
      window = window_or run.window;
      start = record { vertex = slice_index base.values.items; edge = slice_index base.edges.items };
      base = base.number;
    }

pub is_run : (g : DataGraph) (program : Update) (owner : ℕ → ℕ) (colours : List ℕ) (run : SavingRun) (base : Base) → IsDataGraph g → ((v : ℕ) → v < size g → owner v < run.machines) → IsBaseFor g base →
    IsRunFrom g program owner colours run base (run_setting g program owner colours run base)
is_run g program owner colours run base graph low for =
    record {
      is = record { graph = graph; owner = low };
      engine = runs_by run.engine colours (run_setting g program owner colours run base) refl;
      placed = record { graph = refl; machines = refl; owners = λ v inside. refl };
      program_is = refl;
      pipeline = refl;
      window = window_back run.window;
      begins =
          record {
            vertices = record { count = for.vertices; each = λ k inside. refl };
            edges = record { count = for.edges; each = λ k inside. refl };
            number = refl;
          };
    }

-- so there is one
pub some_run : (g : DataGraph) (program : Update) (of : List AtomNo) (owner : List MachineNo) (colours : List ℕ) (run : SavingRun) (base : Base) → IsDataGraph g → length of ≡ size g → All (λ (a : AtomNo). a.0 < length owner) of
    → All (λ (m : MachineNo). m.0 < run.machines) owner → IsBaseFor g base → (st : Setting) × IsRunFrom g program (placed_owner of owner) colours run base st
some_run g program of owner colours run base graph each atoms below for =
    (run_setting g program (placed_owner of owner) colours run base, is_run g program (placed_owner of owner) colours run base graph (owner_low g run.machines of owner each atoms below) for)

-- ---- terms

pub goes_by : (g : DataGraph) (program : Update) (owner : ℕ → ℕ) (colours : List ℕ) (run : SavingRun) (base : Base) (st : Setting) (n : ℕ) (locks : Bool) → n ≡ size g → IsRunFrom g program owner colours run base st →
    GoesBy (with_locking st) run.window (record { terms = record { pipeline = run.pipeline; base = base.number; locks = locks }; machines = run.machines; vertices = n; serial = 0 })
goes_by g program owner colours run base st n locks many is =
    record {
      is = record { graph = is.is.graph; owner = is.is.owner };
      machines = is.placed.machines;
      vertices = ap size is.placed.graph ∙ sym many;
      engine = refl;
      pipeline = is.pipeline;
      window_is = is.window;
      base = is.begins.number;
    }

module _ (g : DataGraph) (program : Update) (owner : ℕ → ℕ) (base : Base) (places : Places) (terms : NewTerms) (locks : terms.terms.locks ≡ takes_locks places.run.engine)
    (st : Setting) (from : IsRunFrom g program owner places.colours.items places.run base st) (goes : GoesBy (with_locking st) places.run.window terms) where
  pub saves_by : SavesBy st program base terms places
  saves_by = record { goes = goes; locks = locks; engine = from.engine; window_is = sym goes.window_is; program_is = from.program_is; begins = from.begins }

  -- with its locks the setting is placed alike
  pub placed_locked : IsOwnedBy g places.run.machines owner (with_locking st)
  placed_locked = record { graph = from.placed.graph; machines = from.placed.machines; owners = from.placed.owners }

  pub can_all_save : AreColoursFor g places.run.engine places.colours.items → (parts : List LocalView) → AreUnsetParts (with_locking st) parts → CanAllSave parts program base terms places
  can_all_save colours parts unset = record {
    st = st;
    saves = saves_by;
    colours = subst (λ (h : DataGraph). AreColoursFor h places.run.engine places.colours.items) (sym from.placed.graph) colours;
    unset = unset;
  }

-- ---- the settings of the law

runs_on_by : (e : Engine) (colours : List ℕ) (st : Setting) (view : BaseView) → RunsBy e colours st → RunsBy e colours (going_on st view.numbers view.number)
runs_on_by Locking colours st view by = by
runs_on_by (Chromatic greatest) colours st view by = by

module _ (g : DataGraph) (program : Update) (owner : ℕ → ℕ) (colours : List ℕ) (run : SavingRun) (base : Base) (st : Setting) (view : BaseView) (runs : IsSavingRunOf g program owner colours run st) (of : IsBaseOf st base view) where
  abbrev pub onward : Setting
  onward = going_on st view.numbers view.number

  pub runs_on : IsRunFrom g program owner colours run base onward
  runs_on = record {
    is = record { graph = runs.setting.is.graph; owner = runs.setting.is.owner };
    engine = runs_on_by run.engine colours st view runs.engine;
    placed = record { graph = runs.placed.graph; machines = runs.placed.machines; owners = runs.placed.owners };
    program_is = runs.program_is;
    pipeline = runs.pipeline;
    window = runs.window;
    begins = record { vertices = of.vertices; edges = of.edges; number = of.number };
  }

-- those that stand first stand for the law's machines as they go back to the base
pub members_of : {P : Type 0} (meaning : P → Update) (st : Setting) (view : BaseView) (before : Cluster) (placed : List (AnyMachine P)) → StandFirst meaning (going_on st view.numbers view.number) before placed → AreAnyMachinesOf meaning st view before placed
members_of meaning st view before placed first = record { many = first.many; each = first.each }
