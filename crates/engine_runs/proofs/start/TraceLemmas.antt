-- The course of a call opens with the machines that were made for it.
use Rattle.std.proofs.Common.{Bool, List, [], ap, length, refl, replicate, slice_index, subst, sym, ℕ, zero, suc, ◌+◌, ◌<◌, ◌^◌, ◌∙◌, ◌≡◌}
use Rattle.std.specs.declared.alloc.Global.{Global}
use Rattle.std.specs.declared.vec.Vec.{Vec}
use Rattle.cluster_step.specs.trace.Traces.{CallOpening, TraceView, IsTraceNow, OpensCall, StartsCall, StartsSaving, first_cluster}
use Rattle.engine_runs.specs.start.Inner.Openings.{CanOpenWith, IsStoreOf, OpensWith, base_with}
use Rattle.engine_runs.specs.start.Starting.{Base, AnyMachine, IsAnyMachineOf, Setting, opening_from}
use Rattle.coordinator.specs.coord_core.Stores.{store_view}
use Rattle.coordinator.specs.declared.coord_core.stores.Store.{Store}
use Rattle.gl_base.specs.declared.entries.Entry.{Entry}
use Rattle.gl_base.specs.declared.jobs.FailureAt.{FailureAt}
use Rattle.graph_core.specs.DataGraph.{DataGraph, size}
use Rattle.recovery.specs.opened_store.Opening.{base_opened, cluster_before, ticket_above}
use Rattle.placed_machines.specs.Beginning.{AreAnyMachinesOf, BaseView, Cluster, HaveAdmitted, IsAttemptFrom, IsBaseOf, IsSavingRunOf}
use Rattle.placed_machines.specs.declared.placing.SavingRun.{SavingRun}
use Rattle.engine_runs.proofs.attempt_machines.BeginLemmas.{begins_so, ends_there, start_with}
use Rattle.engine_runs.proofs.attempt_machines.EngineLemmas.{led_by}
use Rattle.engine_runs.specs.attempt_machines.Beginning.{if_taken}
use Rattle.update_api.specs.Updates.{Update}

-- how many scopes machines have admitted that are new
none_admitted : (n a : ℕ) → 0 ≡ slice_index (replicate n 0) a
none_admitted zero zero = refl
none_admitted zero (suc a) = refl
none_admitted (suc n) zero = refl
none_admitted (suc n) (suc a) = none_admitted n a

module _ {P : Type 0} (meaning : P → Update) (g : DataGraph) (program : Update) (owner : ℕ → ℕ) (colours : List ℕ) (run : SavingRun) (base : Base) (serials : List ℕ) (store : Store) (of_store : IsStoreOf g base store) (members : List (AnyMachine P))
    (stand : (st : Setting) (view : BaseView) (before : Cluster) → IsSavingRunOf g program owner colours run st → IsBaseOf st base view → HaveAdmitted st serials before → AreAnyMachinesOf meaning st view before members) where
  -- they begin an attempt of the law
  pub starts_some : (next left : ℕ) → IsAttemptFrom g program owner colours run base serials next left store.length → (st : Setting) × (view : BaseView) × (before : Cluster) × StartsSaving (IsAnyMachineOf meaning) members run.engine (if_taken run.window (store_view store)) next left st view before
  starts_some next left is =
      let are : AreAnyMachinesOf meaning is.st is.view is.before members = stand is.st is.view is.before is.runs is.of_base is.admitted in (
        is.st,
        is.view,
        is.before,
        record {
          setting = is.runs.setting;
          led = led_by run.engine colours is.st is.runs.engine;
          many = are.many;
          each = are.each;
          begins = begins_so run.window is.st is.runs.window (store_view store) is.view is.before (ap size is.runs.placed.graph ∙ sym of_store.vertices) (ap (λ (x : DataGraph). length x.edges) is.runs.placed.graph ∙ sym of_store.edges)
              (is.of_base.number ∙ sym of_store.newest) (λ stored. is.store_end_is);
          first = is.next_is;
          tickets = is.left_is;
        },
      )

  module _ (many : ℕ) (zeros : serials ≡ replicate many 0) (st : Setting) (failures : List FailureAt) (resumed : Bool) (kept : Vec Entry Global) (next left budget : ℕ) (runs : IsSavingRunOf g program owner colours run st) (can : CanOpenWith st failures resumed (base_with kept base) next budget)
      (all : next + budget < 2 ^ 64 → left ≡ budget) where
    abbrev first : Base
    first = base_with kept base

    view_of : IsBaseOf st base (base_opened resumed first)
    view_of = record {
      number = refl;
      vertices = record { count = can.good.vertices.count; each = λ k low. refl };
      edges = record { count = can.good.edges.count; each = λ k low. refl };
    }

    admitted : HaveAdmitted st serials (cluster_before st (ticket_above kept.items) budget base.length)
    admitted a low = none_admitted many a ∙ ap (λ (xs : List ℕ). slice_index xs a) (sym zeros)

    -- they start the call
    pub starts_call : StartsCall (IsAnyMachineOf meaning) members run.engine (if_taken run.window (store_view store)) next left failures st (opening_from st resumed first budget)
    starts_call =
        subst (λ (n : ℕ). StartsCall (IsAnyMachineOf meaning) members run.engine (if_taken run.window (store_view store)) n left failures st (opening_from st resumed first budget)) (sym can.next_is)
        (subst (λ (n : ℕ). StartsCall (IsAnyMachineOf meaning) members run.engine (if_taken run.window (store_view store)) (ticket_above kept.items) n failures st (opening_from st resumed first budget)) (sym (all can.few))
        (start_with meaning run.engine st failures resumed first budget members (if_taken run.window (store_view store)) runs.setting (led_by run.engine colours st runs.engine) can.good can.ordered can.begins
        (stand st (base_opened resumed first) (cluster_before st (ticket_above kept.items) budget base.length) runs view_of admitted)
        (begins_so run.window st runs.window (store_view store) (base_opened resumed first) (cluster_before st (ticket_above kept.items) budget base.length) (ap size runs.placed.graph ∙ sym of_store.vertices)
        (ap (λ (x : DataGraph). length x.edges) runs.placed.graph ∙ sym of_store.edges) (sym of_store.newest) (λ stored. ends_there st resumed first budget ∙ sym of_store.length_is))))

-- what is opened
pub opens_so : {P : Type 0} (meaning : P → Update) (v : TraceView (AnyMachine P)) (st : Setting) (failures : List FailureAt) (resumed : Bool) (base : Base) (budget : ℕ) → OpensCall (IsAnyMachineOf meaning) v.start v.failures st (opening_from st resumed base budget) →
    ((o : CallOpening) → OpensCall (IsAnyMachineOf meaning) v.start v.failures st o → IsTraceNow (IsAnyMachineOf meaning) v st o [] (first_cluster st o)) → OpensWith meaning v st resumed base budget
opens_so meaning v st failures resumed base budget opens begun = record { opens = opens; now = begun (opening_from st resumed base budget) opens }
