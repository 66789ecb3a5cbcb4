-- The updates of an attempt are one order, and bases stay good.
use Rattle.std.proofs.Common.{◌≡◌, ℕ, ◌<◌, List, sym, ap, subst, ◌∙◌}
use Rattle.std.specs.List.{AllByRecursion}
use Rattle.std.proofs.lemmas.Bool.{lt-ltb}
use Rattle.gl_base.specs.declared.entries.Entry.{Entry}
use Rattle.graph_core.specs.DataGraph.{size}
use Rattle.cluster_laws.specs.cluster_core.Recovering.{going_on}
use Rattle.cluster_laws.specs.cluster_core.Settings.{IsSetting}
use Rattle.cluster_laws.specs.cluster_model.Events.{Event, IsTrace, recovers}
use Rattle.whole_laws.proofs.cluster_records.Traces.{begun, traces_go}
use Rattle.whole_laws.proofs.cluster_records.Numbering.{all_own, all_same, left_same, replay-append, tasks-append, valid-append, valid_same}
use Rattle.whole_laws.specs.cluster_records.Bases.{IsBase, IsBased}
use Rattle.whole_laws.specs.cluster_records.Recorded.{HaveSameNumbers, IsOwnUpdate}
use Rattle.whole_laws.specs.cluster_whole.Logged.{Logged}
use Rattle.whole_laws.specs.cluster_whole.Whole.{AreColoured, setting_behind}
use Rattle.seq_run.specs.Orders.{all_tasks, replay, tasks_after}
use Rattle.seq_run.specs.States.{GraphState, start_state}
use Rattle.cluster_step.specs.clusters.Clusters.{BaseView, Cluster, IsGoing, IsSnapSetting, Setting}
use Rattle.cluster_step.specs.clusters.Cuts.{HasGoodBase}
use Rattle.cluster_step.specs.clusters.Ordered.{GoesOnFromBase, HasOneOrder}

module _ (st : Setting) (setting : IsSnapSetting st) (c : Cluster) (going : IsGoing st c) where
  abbrev order : List Entry
  order = going.followed.0.consistent.order

  order_own : AllByRecursion (IsOwnUpdate st) order
  order_own = subst (AllByRecursion (IsOwnUpdate st)) (sym going.accounts.order.order) (all_own st setting.is going.logged going.accounts.since)

  module _ (good : HasGoodBase st c) where
    abbrev before : GraphState
    before = replay st.graph st.program c.base.order

    first_tasks : (u : ℕ) → u < size st.graph → all_tasks st.graph u ≡ tasks_after st.graph st.program c.base.order u
    first_tasks u low = lt-ltb u (size st.graph) low ∙ sym (good.front.tasks u low)

    from_base : GoesOnFromBase st c order
    from_base = record {
      valid = valid-append st.graph st.program (start_state st.graph st.program) (all_tasks st.graph) c.base.order order good.front.valid
          (valid_same st setting.is st.start before (all_tasks st.graph) (tasks_after st.graph st.program c.base.order) order order_own good.numbers first_tasks going.followed.0.consistent.replay.valid);
      numbers = λ v low.
          going.followed.0.consistent.replay.numbers v low ∙ (all_same st setting.is st.start before order order_own good.numbers).vertices v low
          ∙ ap (λ (s : GraphState). s.vertex v) (sym (replay-append st.graph st.program (start_state st.graph st.program) c.base.order order));
      tasks = λ u low.
          left_same st setting.is st.start before (all_tasks st.graph) (tasks_after st.graph st.program c.base.order) order order_own good.numbers first_tasks u low
          ∙ sym (λ i. tasks-append st.graph st.program (start_state st.graph st.program) (all_tasks st.graph) c.base.order order i u);
    }

  pub one_order : HasOneOrder st c
  one_order = record { order = order; replay = going.followed.0.consistent.replay; whole = from_base }

based_good : (st : Setting) (c : Cluster) (logged : List Logged) → IsBased st c logged → HasGoodBase st c
based_good st c logged based = record {
  front = based.front;
  numbers = subst (λ (s : GraphState). HaveSameNumbers st.graph s (replay st.graph st.program c.base.order)) based.start based.numbers;
}

still_setting : (st : Setting) → IsSetting st → (base : BaseView) → IsSetting (going_on st base.numbers base.number)
still_setting st is base = record { graph = is.graph; owner = is.owner }

pub good_bases : (st : Setting) (base : BaseView) (first c : Cluster) (events : List Event) → IsSetting st → AreColoured st st.engine → IsBase st base first.next →
    IsTrace (going_on st base.numbers base.number) (recovers st base first) events c → HasGoodBase (setting_behind (going_on st base.numbers base.number) events) c
good_bases st base first c events is coloured its trace =
    let began = begun st is coloured base first its in
    let now = traces_go events (going_on st base.numbers base.number) (still_setting st is base) (recovers st base first) c began.0 _ trace began.1 began.2 in
    based_good (setting_behind (going_on st base.numbers base.number) events) c now.1 now.3
