-- Machines that were made for an attempt begin it in the course of a call.
use Rattle.std.proofs.Common.{◌≡◌, ◌⊎◌, ◌+◌, ◌*◌, ◌<◌, ℕ, Bool, None, Option, Some, true, false, List, [], length, refl, sym, ap, ◌∙◌, subst, arith}
use Rattle.std.specs.Prelude.{IfSome, option_map}
use Rattle.coordinator.specs.coord_core.Stores.{store_view}
use Rattle.coordinator.specs.declared.coord_core.stores.Store.{Store}
use Rattle.gl_base.specs.declared.jobs.FailureAt.{FailureAt}
use Rattle.gl_base.specs.declared.snapshots.Base.{Base}
use Rattle.cluster_step.proofs.trace.Going.{setting_now}
use Rattle.cluster_step.specs.trace.Traces.{first_setting}
use Rattle.cluster_laws.specs.cluster_model.Events as law
use Rattle.cluster_laws.specs.cluster_model.Totals.{total}
use Rattle.cluster_laws.specs.cluster_core.Settings as settings
use Rattle.coordinator.specs.declared.coord_core.steps.Engine.TheVariants.{Chromatic, Locking}
use Rattle.graph_core.specs.DataGraph.{DataGraph, size}
use Rattle.recovery.proofs.opened_store.OpenLemmas.{opens_from}
use Rattle.machine_core.specs.machine_parts.Settings.{window_of}
use Rattle.placed_machines.proofs.RunLemmas.{stored_with, unstored_with}
use Rattle.placed_machines.specs.declared.placing.SavingRun.{SavingRun}
use Rattle.update_api.specs.Updates.{Update}
use Rattle.snapshot_machines.proofs.wave_counts.CountLemmas.{total_from-nothing}
use Rattle.call_laws.specs.whole_calls.Following.{AreJobFailures, has_reached}
use Rattle.call_laws.proofs.whole_calls.Leading.{behind_since}
use Rattle.engine_runs.specs.attempt_machines.Beginning.{AreAnyMachinesOf, BaseView, BeginsWith, CallOpening, Cluster, TraceView, Engine, AnyMachine, GoesBackWith, IsTraceNow, IsEngineOf, IsAnyMachineOf, IsGoodBase, IsSavingRunOf, IsSnapSetting, RunsBy, Setting, StartsCall, StoreView, base_opened, cluster_before, if_taken, newest_setting, opening_from, shared_of, store_from, ticket_above}

none_more : (n failed : ℕ) → failed ≡ 0 → n + 16 * failed ≡ n
none_more n failed none = omega (arith, none)

-- what a coordinator knows of the store, where there is one
pub viewed : (window : Option ℕ) (taken : Option Store) (store : Store) → taken ≡ if_taken window store → option_map store_view taken ≡ if_taken window (store_view store)
viewed None taken store is = ap (option_map store_view) is
viewed (Some window) taken store is = ap (option_map store_view) is

-- what is so of the store is so where there is one
pub where_taken : (Holds : Store → Type 0) (window : Option ℕ) (taken : Option Store) (store : Store) → taken ≡ if_taken window store → Holds store → IfSome taken Holds
where_taken Holds None taken store is holds = subst (λ (t : Option Store). IfSome t Holds) (sym is) tt
where_taken Holds (Some window) taken store is holds = subst (λ (t : Option Store). IfSome t Holds) (sym is) holds

-- with this window, and this store where there is one
pub begins_so : (window : Option ℕ) (st : Setting) → window_of st ≡ window → (store : StoreView) (base : BaseView) (before : Cluster) → size st.graph ≡ store.vertices → length st.graph.edges ≡ store.edges → base.number ≡ store.newest
    → (st.stored ≡ true → (law.recovers st base before).coordinator.store_end ≡ store.store_end) → BeginsWith (if_taken window store) st base before
begins_so None st is store base before vertices edges newest store_end = unstored_with st is
begins_so (Some window) st is store base before vertices edges newest store_end = record {
  stored = (stored_with st window is).0;
  vertices = vertices;
  edges = edges;
  newest = newest;
  store_end = store_end (stored_with st window is).0;
}

pub start_with : {P : Type 0} (meaning : P → Update) (engine : Engine) (st : Setting) (failures : List FailureAt) (resumed : Bool) (base : Base) (left : ℕ) (members : List (AnyMachine P)) (store : Option StoreView) → IsSnapSetting st → IsEngineOf engine st.engine → IsGoodBase (shared_of st failures) base
    → AreJobFailures st.machines failures → (resumed ≡ true) ⊎ ((resumed ≡ false) × (base.order.items ≡ [])) → AreAnyMachinesOf meaning st (base_opened resumed base) (cluster_before st (ticket_above base.order.items) left base.length) members
    → BeginsWith store st (base_opened resumed base) (cluster_before st (ticket_above base.order.items) left base.length)
    → StartsCall (IsAnyMachineOf meaning) members engine store (ticket_above base.order.items) left failures st (opening_from st resumed base left)
start_with meaning engine st failures resumed base left members store setting led good ordered begins are stored = record {
  starts = record {
    setting = setting;
    led = led;
    many = are.many;
    each = are.each;
    begins = stored;
    first = refl;
    tickets = refl;
  };
  opened = opens_from st failures base good resumed left base.length ordered begins;
}

-- the store of the base has as many bytes as that
pub ends_there : (st : Setting) (resumed : Bool) (base : Base) (left : ℕ) → (law.recovers st (base_opened resumed base) (cluster_before st (ticket_above base.order.items) left base.length)).coordinator.store_end ≡ base.length
ends_there st resumed base left = none_more base.length (total st.machines (λ a. 0)) (total_from-nothing 0 st.machines (λ a. 0) (λ a. refl))

pub start_call : {P : Type 0} (meaning : P → Update) (engine : Engine) (st : Setting) (failures : List FailureAt) (resumed : Bool) (base : Base) (left : ℕ) (members : List (AnyMachine P)) → IsSnapSetting st → st.stored ≡ true → IsEngineOf engine st.engine → IsGoodBase (shared_of st failures) base
    → AreJobFailures st.machines failures → (resumed ≡ true) ⊎ ((resumed ≡ false) × (base.order.items ≡ [])) → AreAnyMachinesOf meaning st (base_opened resumed base) (cluster_before st (ticket_above base.order.items) left base.length) members
    → StartsCall (IsAnyMachineOf meaning) members engine (Some (store_from st base)) (ticket_above base.order.items) left failures st (opening_from st resumed base left)
start_call meaning engine st failures resumed base left members setting stored led good ordered begins are =
    start_with meaning engine st failures resumed base left members (Some (store_from st base)) setting led good ordered begins are
    (record { stored = stored; vertices = refl; edges = refl; newest = refl; store_end = ends_there st resumed base left })

module _ (st : Setting) (o : CallOpening) (events : List law.Event) where
  -- what of the setting is the same in the newest attempt
  by_setting : {X : Type 0} (read : Setting → X) → ((s : Setting) → read (record st { start = s.start; base = s.base }) ≡ read st) → read (newest_setting st o events) ≡ read st
  by_setting read same = ap read (behind_since events (first_setting st o)) ∙ same (newest_setting st o events)

  -- it begins elsewhere, and runs by the same engine
  runs_on : (engine : Engine) (colours : List ℕ) → RunsBy engine colours st → RunsBy engine colours (record st { start = (newest_setting st o events).start; base = (newest_setting st o events).base })
  runs_on Locking colours runs = runs
  runs_on (Chromatic greatest) colours runs = runs

  pub run_now : (g : DataGraph) (program : Update) (owner : ℕ → ℕ) (colours : List ℕ) (run : SavingRun) → IsSavingRunOf g program owner colours run st → IsSavingRunOf g program owner colours run (newest_setting st o events)
  run_now g program owner colours run is =
      let setting = setting_now st o events is.setting in
      subst (IsSavingRunOf g program owner colours run) (sym (behind_since events (first_setting st o))) (record {
        setting = subst IsSnapSetting (behind_since events (first_setting st o)) setting;
        engine = runs_on run.engine colours is.engine;
        placed = record { graph = is.placed.graph; machines = is.placed.machines; owners = is.placed.owners };
        program_is = is.program_is;
        pipeline = is.pipeline;
        window = is.window;
      })

  -- the newest attempt has the same engine
  engine_now : (engine : Engine) → IsEngineOf engine st.engine → IsEngineOf engine (newest_setting st o events).engine
  engine_now engine led = subst (λ (e : settings.Engine). IsEngineOf engine e) (sym (by_setting (λ s. s.engine) (λ s. refl))) led

  -- it takes snapshots within the same window
  pub window_now : window_of (newest_setting st o events) ≡ window_of st
  window_now = by_setting window_of (λ s. refl)

  pub back_with : {P : Type 0} (meaning : P → Update) (engine : Engine) (old : TraceView (AnyMachine P)) (c : Cluster) (base : BaseView) (store : Option StoreView) (members : List (AnyMachine P)) → IsTraceNow (IsAnyMachineOf meaning) old st o events c
      → IsEngineOf engine st.engine → law.GoesBackTo (newest_setting st o events) c base → c.stopped ≡ false → ((a : ℕ) → a < st.machines → has_reached old.failures c a ≡ true → (c.machine a).failed ≡ true)
      → AreAnyMachinesOf meaning (newest_setting st o events) base c members → BeginsWith store (newest_setting st o events) base c → GoesBackWith (IsAnyMachineOf meaning) old members engine store st o events c base
  back_with meaning engine old c base store members is led goes running failed are begins = record {
    is = is;
    may = (running, goes);
    follows = λ a low reached. failed a (subst (λ (k : ℕ). a < k) (by_setting (λ s. s.machines) (λ s. refl)) low) reached;
    starts = record {
      setting = setting_now st o events is.setting;
      led = engine_now engine led;
      many = are.many;
      each = are.each;
      begins = begins;
      first = is.code.next;
      tickets = is.code.left;
    };
  }

  pub go_back : {P : Type 0} (meaning : P → Update) (engine : Engine) (old : TraceView (AnyMachine P)) (c : Cluster) (base : BaseView) (store : StoreView) (members : List (AnyMachine P)) → IsTraceNow (IsAnyMachineOf meaning) old st o events c
      → st.stored ≡ true → IsEngineOf engine st.engine → law.GoesBackTo (newest_setting st o events) c base → c.stopped ≡ false → ((a : ℕ) → a < st.machines → has_reached old.failures c a ≡ true → (c.machine a).failed ≡ true)
      → AreAnyMachinesOf meaning (newest_setting st o events) base c members → size st.graph ≡ store.vertices → length st.graph.edges ≡ store.edges → base.number ≡ store.newest
      → (law.recovers (newest_setting st o events) base c).coordinator.store_end ≡ store.store_end → GoesBackWith (IsAnyMachineOf meaning) old members engine (Some store) st o events c base
  go_back meaning engine old c base store members is stored led goes running failed are vertices edges newest store_end =
      back_with meaning engine old c base (Some store) members is led goes running failed are
      (record {
        stored = by_setting (λ s. s.stored) (λ s. refl) ∙ stored;
        vertices = by_setting (λ s. size s.graph) (λ s. refl) ∙ vertices;
        edges = by_setting (λ s. length s.graph.edges) (λ s. refl) ∙ edges;
        newest = newest;
        store_end = store_end;
      })
