-- A cluster of the law goes on, whatever happens but a recovery.
use Rattle.std.proofs.Common.{◌≡◌, List, [], ◌∷◌, ◌++◌, refl, sym, subst}
use Rattle.std.specs.List.{AllByRecursion}
use Rattle.cluster_laws.specs.cluster_core.Recovering.{going_on}
use Rattle.cluster_laws.specs.cluster_core.Settings.{Chromatic, Engine, Locking, Setting}
use Rattle.cluster_laws.specs.cluster_model.Clusters.{BaseView, Cluster}
use Rattle.cluster_laws.specs.cluster_model.Events.{Event, IsTrace, MayOccur, after_event, recovers}
use Rattle.whole_laws.proofs.cluster_ending.Traces.{traces_followed, setting_same}
use Rattle.whole_laws.proofs.cluster_ending.Putting.{recovered_watched}
use Rattle.whole_laws.proofs.cluster_ending.Reporting.{traces_informed, recovered_informed}
use Rattle.whole_laws.specs.cluster_ending.Ends.{IsFollowed}
use Rattle.whole_laws.specs.cluster_ending.Snapshotting.{HasNoSteps}
use Rattle.whole_laws.proofs.cluster_ending.Stepless.{traces_without_steps}
use Rattle.whole_laws.proofs.cluster_records.Accounts.{accounts_kept, begun_accounts}
use Rattle.whole_laws.specs.cluster_whole.Whole.{IsNoRecovery}
use Rattle.coordinator.specs.machine_api.Going.{IsGoing, IsSnapSetting, KnowsNoSteps}

-- ---- steps

knows_none : (engine : Engine) (c : Cluster) → HasNoSteps c → KnowsNoSteps engine c
knows_none Locking c none = none
knows_none (Chromatic colour colours) c none = tt

-- with locks none is told
steps_kept : (engine : Engine) (old new : Cluster) → (engine ≡ Locking → HasNoSteps old → HasNoSteps new) → KnowsNoSteps engine old → KnowsNoSteps engine new
steps_kept Locking old new kept none = kept refl none
steps_kept (Chromatic colour colours) old new kept none = tt

-- ---- events

pub going_first : (st : Setting) → IsSnapSetting st → (base : BaseView) (before : Cluster) → IsGoing (going_on st base.numbers base.number) (recovers st base before)
going_first st setting base before =
    let accounts = begun_accounts st setting.is setting.coloured base before in
    record {
      followed = (accounts.0, _, recovered_watched st (going_on st base.numbers base.number) base before refl refl);
      informed = recovered_informed st base before;
      no_steps = knows_none st.engine (recovers st base before) (λ a. tt);
      logged = [];
      accounts = accounts.1;
    }

module _ (st : Setting) (setting : IsSnapSetting st) (c : Cluster) (going : IsGoing st c) (event : Event) (may : MayOccur st c event) (other : IsNoRecovery event) where
  trace : IsTrace st c (event ∷ []) (after_event st c event)
  trace = (may, refl)

  pub going_after : IsGoing st (after_event st c event)
  going_after =
      let accounts = accounts_kept st setting.is c going.followed.0 going.logged going.accounts event may.1 other in
      let later = traces_followed st setting.is (event ∷ []) c (after_event st c event) going.followed trace in
      let watched = subst (λ (s : Setting). IsFollowed s (after_event st c event)) (setting_same st event other) later in
      record {
        followed = (accounts.0, watched.1, watched.2);
        informed = traces_informed st setting.is (event ∷ []) c (after_event st c event) going.followed.0 going.informed trace;
        no_steps = steps_kept st.engine c (after_event st c event) (λ locks none. traces_without_steps st locks (event ∷ []) c (after_event st c event) none trace) going.no_steps;
        logged = going.logged ++ accounts.1;
        accounts = accounts.3;
      }

-- and so on, event by event
pub going_trace : (st : Setting) → IsSnapSetting st → (events : List Event) → AllByRecursion IsNoRecovery events → (c new : Cluster) → IsGoing st c → IsTrace st c events new → IsGoing st new
going_trace st setting [] others c new going trace = subst (IsGoing st) (sym trace) going
going_trace st setting (event ∷ events) others c new going trace =
    going_trace st setting events others.1 (after_event st c event) new (going_after st setting c going event trace.0 others.0)
    (subst (λ (s : Setting). IsTrace s (after_event st c event) events new) (setting_same st event others.0) trace.1)
