-- Each event leaves a whole cluster whole, and so does every list of events.
use Rattle.std.proofs.Common.{ℕ, ◌≡◌, List, [], ◌∷◌, refl, sym, ap, subst, ◌++◌, arith, ◌<◌}
use Rattle.std.specs.List.{AllByRecursion}
use Rattle.cluster_laws.specs.cluster_core.Actions.{MayRecord}
use Rattle.cluster_laws.specs.cluster_core.Places.{IsExclusive}
use Rattle.cluster_laws.specs.cluster_core.Recovering.{recovered}
use Rattle.cluster_laws.specs.cluster_core.Settings.{Chromatic, Engine, IsSetting, Locking, Setting}
use Rattle.cluster_laws.specs.cluster_core.Snapshots.{IsConsistent}
use Rattle.cluster_laws.specs.cluster_core.Stages.{Idle}
use Rattle.cluster_laws.specs.cluster_core.Worlds.{World}
use Rattle.cluster_laws.proofs.cluster_places.Excluding.{exclusive}
use Rattle.cluster_laws.proofs.cluster_places.PlacesKept.{start_placed}
use Rattle.cluster_laws.proofs.cluster_places.StepsKept.{step_excludes}
use Rattle.cluster_laws.specs.cluster_cuts.Goings.{GoesOn, IsOneStep}
use Rattle.cluster_laws.proofs.cluster_cuts.Beginning.{first_kept, recovered_starts, recovered_unmarked}
use Rattle.cluster_laws.proofs.cluster_cuts.CutsGoOn.{goes_not, goes_then, step_goes}
use Rattle.cluster_laws.specs.cluster_model.Clusters.{BaseView, Cluster}
use Rattle.cluster_laws.specs.cluster_model.Events.{Event, Admit, DeliverCall, DeliverReport, Deliver, Fail, Grant, Mark, MayDo, IsTrace, PutBegin, PutStep, PutWave, Record, Recover, Section, Send, SendCall, SendReport, Stop, Update, after_event, recovers, setting_after}
use Rattle.cluster_laws.specs.cluster_model.Leading.{RecordIsDue}
use Rattle.whole_laws.specs.cluster_whole.Logged.{IsLogged, Logged}
use Rattle.whole_laws.specs.cluster_whole.Views.{section_of, world_of}
use Rattle.whole_laws.specs.cluster_whole.Whole.{AreColoured, AreKeptApart, IsNoRecovery, IsWhole, setting_behind}
use Rattle.whole_laws.specs.cluster_whole.Windows.{AreWithin}
use Rattle.whole_laws.proofs.cluster_whole.Logging.{step_logs}
use Rattle.whole_laws.proofs.cluster_whole.Restarting.{recovered_turn}
use Rattle.whole_laws.proofs.cluster_whole.Stepping.{event_turn}
use Rattle.whole_laws.proofs.cluster_whole.WindowEvents.{windows_kept}
use Rattle.whole_laws.proofs.cluster_whole.Within.{back_within}
use Rattle.whole_laws.proofs.cluster_whole.Joining.{event_leads}
use Rattle.whole_laws.proofs.cluster_whole.Keeping.{move_places, move_step}

not_less : (n : ℕ) → n < n → ⊥
not_less n low = omega arith

-- the setting of an attempt that begins with this base
abbrev pub begun_with : Setting → BaseView → Setting
begun_with st base = record st { start = base.numbers; base = base.number }

pub begun_is : (st : Setting) → IsSetting st → (base : BaseView) → IsSetting (begun_with st base)
begun_is st is base = record { graph = is.graph; owner = is.owner }

-- ---- a recovery makes a start

recovered_apart : (st : Setting) (engine : Engine) → AreColoured st engine → (base : BaseView) (c : Cluster) → AreKeptApart engine (begun_with st base) (recovers st base c)
recovered_apart st Locking coloured base c =
    (λ s. Idle, start_placed (begun_with st base) (recovered st base.numbers base.number (world_of c)) (recovered_starts st base.numbers base.number (world_of c)))
recovered_apart st (Chromatic colour colours) coloured base c = (coloured, recovered_turn st (begun_with st base) colour base c refl)

pub recovered_whole : (st : Setting) → IsSetting st → AreColoured st st.engine → (base : BaseView) (c : Cluster) → IsWhole (begun_with st base) (recovers st base c)
recovered_whole st is coloured base c =
    let w : World = recovered st base.numbers base.number (world_of c) in
    record {
      within = λ a. back_within (begun_with st base) base.numbers base.number a (c.machine a);
      apart = recovered_apart st st.engine coloured base c;
      consistent = first_kept (begun_with st base) (begun_is st is base) w (recovered_starts st base.numbers base.number (world_of c)) (recovered_unmarked st base.numbers base.number (world_of c));
    }

-- and nothing is logged yet
pub recovered_logs : (st : Setting) → IsSetting st → AreColoured st st.engine → (base : BaseView) (c : Cluster) →
    (whole : IsWhole (begun_with st base) (recovers st base c)) × IsLogged (begun_with st base) (world_of (recovers st base c)) whole.consistent []
unfolding recovered_whole
recovered_logs st is coloured base c =
    (recovered_whole st is coloured base c, record { order = refl; cut = λ begun. absurd (not_less base.number begun); low = tt })

apart_excludes : (st : Setting) → IsSetting st → (engine : Engine) (c : Cluster) → AreKeptApart engine st c → IsExclusive st (world_of c)
apart_excludes st is Locking c apart = exclusive st is (world_of c) apart.0 apart.1
apart_excludes st is (Chromatic colour colours) c apart = step_excludes st colour c.coordinator.rounds.colour apart.0 (world_of c) apart.1.step

pub is_exclusive : (st : Setting) → IsSetting st → (c : Cluster) → IsWhole st c → IsExclusive st (world_of c)
is_exclusive st is c whole = apart_excludes st is st.engine c whole.apart

are_coloured : (st : Setting) (engine : Engine) (c : Cluster) → AreKeptApart engine st c → AreColoured st engine
are_coloured st Locking c apart = tt
are_coloured st (Chromatic colour colours) c apart = apart.0

setting_same : (st : Setting) (event : Event) → IsNoRecovery event → setting_after st event ≡ st
setting_same st (Admit a v) other = refl
setting_same st (Grant a x) other = refl
setting_same st (Send p q) other = refl
setting_same st (SendCall a) other = refl
setting_same st (SendReport a) other = refl
setting_same st (Deliver p q) other = refl
setting_same st (DeliverCall a) other = refl
setting_same st (DeliverReport a) other = refl
setting_same st (Update s) other = refl
setting_same st (Mark s) other = refl
setting_same st (Section a) other = refl
setting_same st Record other = refl
setting_same st PutBegin other = refl
setting_same st PutStep other = refl
setting_same st PutWave other = refl
setting_same st (Fail a) other = refl
setting_same st Stop other = refl
setting_same st (Recover base) other = absurd (other base refl)

setting_is : (st : Setting) → IsSetting st → (event : Event) → IsSetting (setting_after st event)
setting_is st is (Admit a v) = is
setting_is st is (Grant a x) = is
setting_is st is (Send p q) = is
setting_is st is (SendCall a) = is
setting_is st is (SendReport a) = is
setting_is st is (Deliver p q) = is
setting_is st is (DeliverCall a) = is
setting_is st is (DeliverReport a) = is
setting_is st is (Update s) = is
setting_is st is (Mark s) = is
setting_is st is (Section a) = is
setting_is st is Record = is
setting_is st is PutBegin = is
setting_is st is PutStep = is
setting_is st is PutWave = is
setting_is st is (Fail a) = is
setting_is st is Stop = is
setting_is st is (Recover base) = begun_is st is base

-- ---- each event but a recovery

module _ (st : Setting) (is : IsSetting st) where
  apart_kept : (engine : Engine) → st.engine ≡ engine → (c : Cluster) → AreWithin st c → AreKeptApart engine st c → (event : Event) → MayDo st c event → IsNoRecovery event → AreKeptApart engine st (after_event st c event)
  apart_kept Locking locks c within apart event may other = move_places st is locks (world_of c) apart (world_of (after_event st c event)) (event_leads st c event may other)
  apart_kept (Chromatic colour colours) chromatic c within apart event may other = (apart.0, event_turn st is colour colours chromatic c apart.1 within event may other)

  -- what the event does to order and cut
  pub event_step : (c : Cluster) (whole : IsWhole st c) (event : Event) → MayDo st c event → IsNoRecovery event → IsOneStep st (world_of c) whole.consistent (world_of (after_event st c event))
  event_step c whole event may other = move_step st is (world_of c) whole.consistent (is_exclusive st is c whole) (world_of (after_event st c event)) (event_leads st c event may other)

  whole_with : (c : Cluster) → IsWhole st c → (event : Event) → MayDo st c event → IsNoRecovery event → IsConsistent st (world_of (after_event st c event)) → IsWhole st (after_event st c event)
  whole_with c whole event may other next =
      record { within = windows_kept st c whole.within event may; apart = apart_kept st.engine refl c whole.within whole.apart event may other; consistent = next }

  pub event_moved : (c : Cluster) → IsWhole st c → (event : Event) → MayDo st c event → IsNoRecovery event → IsWhole st (after_event st c event)
  event_moved c whole event may other = whole_with c whole event may other (event_step c whole event may other).next

  -- and the updates that are logged for snapshots go on
  pub event_logs : (c : Cluster) (whole : IsWhole st c) (event : Event) (logged : List Logged) → MayDo st c event → IsNoRecovery event → IsLogged st (world_of c) whole.consistent logged →
      (next : IsWhole st (after_event st c event)) × (more : List Logged) × AllByRecursion (λ l. c.coordinator.acknowledged < l.number) more × IsLogged st (world_of (after_event st c event)) next.consistent (logged ++ more)
  unfolding whole_with
  event_logs c whole event logged may other was =
      let one = event_step c whole event may other in
      let goes = step_logs st is (world_of c) whole.consistent (world_of (after_event st c event)) logged was one in
      (whole_with c whole event may other one.next, goes.0, goes.1, goes.2)

  -- ---- every list of events of an attempt

  pub goes_on : (events : List Event) → AllByRecursion IsNoRecovery events → (old new : Cluster) (whole : IsWhole st old) → IsTrace st old events new → GoesOn st (world_of old) whole.consistent (world_of new)
  unfolding whole_with
  goes_on [] all old new whole trace = subst (λ (c : Cluster). GoesOn st (world_of old) whole.consistent (world_of c)) (sym trace) (goes_not st (world_of old) whole.consistent)
  goes_on (event ∷ events) all old new whole trace =
      let mid : Cluster = after_event st old event in
      let one : GoesOn st (world_of old) whole.consistent (world_of mid) = step_goes st is (world_of old) whole.consistent (world_of mid) (event_step old whole event trace.0.1 all.0) in
      let next : IsWhole st mid = whole_with old whole event trace.0.1 all.0 one.next in
      let rest : IsTrace st mid events new = subst (λ (s : Setting). IsTrace s mid events new) (setting_same st event all.0) trace.1 in
      goes_then st (world_of old) (world_of mid) (world_of new) whole.consistent one (goes_on events all.1 mid new next rest)

-- ---- each event, and every list of events

pub whole_kept : (st : Setting) → IsSetting st → (c : Cluster) → IsWhole st c → (event : Event) → MayDo st c event → IsWhole (setting_after st event) (after_event st c event)
whole_kept st is c whole (Admit a v) may = event_moved st is c whole (Admit a v) may (λ base same. cc)
whole_kept st is c whole (Grant a x) may = event_moved st is c whole (Grant a x) may (λ base same. cc)
whole_kept st is c whole (Send p q) may = event_moved st is c whole (Send p q) may (λ base same. cc)
whole_kept st is c whole (SendCall a) may = event_moved st is c whole (SendCall a) may (λ base same. cc)
whole_kept st is c whole (SendReport a) may = event_moved st is c whole (SendReport a) may (λ base same. cc)
whole_kept st is c whole (Deliver p q) may = event_moved st is c whole (Deliver p q) may (λ base same. cc)
whole_kept st is c whole (DeliverCall a) may = event_moved st is c whole (DeliverCall a) may (λ base same. cc)
whole_kept st is c whole (DeliverReport a) may = event_moved st is c whole (DeliverReport a) may (λ base same. cc)
whole_kept st is c whole (Update s) may = event_moved st is c whole (Update s) may (λ base same. cc)
whole_kept st is c whole (Mark s) may = event_moved st is c whole (Mark s) may (λ base same. cc)
whole_kept st is c whole (Section a) may = event_moved st is c whole (Section a) may (λ base same. cc)
whole_kept st is c whole Record may = event_moved st is c whole Record may (λ base same. cc)
whole_kept st is c whole PutBegin may = event_moved st is c whole PutBegin may (λ base same. cc)
whole_kept st is c whole PutStep may = event_moved st is c whole PutStep may (λ base same. cc)
whole_kept st is c whole PutWave may = event_moved st is c whole PutWave may (λ base same. cc)
whole_kept st is c whole (Fail a) may = event_moved st is c whole (Fail a) may (λ base same. cc)
whole_kept st is c whole Stop may = event_moved st is c whole Stop may (λ base same. cc)
whole_kept st is c whole (Recover base) may = recovered_whole st is (are_coloured st st.engine c whole.apart) base c

pub traces_stay : (st : Setting) → IsSetting st → (events : List Event) (old new : Cluster) → IsWhole st old → IsTrace st old events new → IsWhole (setting_behind st events) new
traces_stay st is [] old new whole trace = subst (IsWhole st) (sym trace) whole
traces_stay st is (event ∷ events) old new whole trace =
    traces_stay (setting_after st event) (setting_is st is event) events (after_event st old event) new (whole_kept st is old whole event trace.0.1) trace.1

-- ---- records

pub may_record : (st : Setting) (c : Cluster) → RecordIsDue st c.coordinator → MayRecord st (world_of c)
may_record st c due =
    record { under = due.under; sections = λ a low. let come = due.sections a low in (come.0.section, ap section_of come.1) }
