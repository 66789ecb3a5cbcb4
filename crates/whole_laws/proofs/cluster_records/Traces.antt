-- Every list of events keeps account of the updates, through failures and recoveries.
use Rattle.std.proofs.Common.{List, [], ◌∷◌, ◌++◌, sym, subst}
use Rattle.cluster_laws.specs.cluster_core.Recovering.{going_on}
use Rattle.cluster_laws.specs.cluster_core.Settings.{Chromatic, Engine, IsSetting, Locking, Setting}
use Rattle.cluster_laws.specs.cluster_model.Clusters.{BaseView, Cluster}
use Rattle.cluster_laws.specs.cluster_model.Events.{Event, Admit, DeliverCall, DeliverReport, Deliver, Fail, Grant, IsTrace, Mark, MayDo, PutBegin, PutStep, PutWave, Record, Recover, Section, Send, SendCall, SendReport, Stop, Update, after_event, recovers, setting_after}
use Rattle.whole_laws.specs.cluster_whole.Logged.{Logged}
use Rattle.whole_laws.specs.cluster_whole.Whole.{AreColoured, AreKeptApart, IsNoRecovery, IsWhole, setting_behind}
use Rattle.whole_laws.specs.cluster_records.Bases.{IsBase, IsBased}
use Rattle.whole_laws.specs.cluster_records.Recorded.{IsAccounted}
use Rattle.whole_laws.proofs.cluster_records.Accounts.{begun_accounts, quiet_kept, update_kept}
use Rattle.whole_laws.proofs.cluster_records.Based.{begun_based, next_base, still_based, update_based}
use Rattle.whole_laws.proofs.cluster_records.Entering.{IsNoUpdate, update_logged}

pub are_coloured : (st : Setting) (engine : Engine) (c : Cluster) → AreKeptApart engine st c → AreColoured st engine
are_coloured st Locking c apart = tt
are_coloured st (Chromatic colour colours) c apart = apart.0

setting_is : (st : Setting) → IsSetting st → (base : BaseView) → IsSetting (going_on st base.numbers base.number)
setting_is st is base = record { graph = is.graph; owner = is.owner }

-- ---- a recovery

pub begun : (st : Setting) → IsSetting st → AreColoured st st.engine → (base : BaseView) (c : Cluster) → IsBase st base c.next →
    (whole : IsWhole (going_on st base.numbers base.number) (recovers st base c))
    × IsAccounted (going_on st base.numbers base.number) (recovers st base c) whole []
    × IsBased (going_on st base.numbers base.number) (recovers st base c) []
begun st is coloured base c its = let account = begun_accounts st is coloured base c in (account.0, account.1, begun_based st base c its)

-- ---- each event

module _ (st : Setting) (is : IsSetting st) (c : Cluster) (whole : IsWhole st c) (logged : List Logged) (account : IsAccounted st c whole logged) (based : IsBased st c logged) where
  abbrev Goes : Event → Type 0
  Goes event = IsSetting (setting_after st event) × (next : IsWhole (setting_after st event) (after_event st c event)) × (now : List Logged)
      × IsAccounted (setting_after st event) (after_event st c event) next now × IsBased (setting_after st event) (after_event st c event) now

  quiet_goes : (event : Event) → MayDo st c event → IsNoRecovery event → IsNoUpdate event → (next : IsWhole st (after_event st c event)) × (now : List Logged)
      × IsAccounted st (after_event st c event) next now × IsBased st (after_event st c event) now
  quiet_goes event may other none =
      let kept = quiet_kept st is c whole logged account event may other none in
      (kept.0, logged ++ [], kept.1, still_based st c logged based event may other none)

  pub event_goes : (event : Event) → MayDo st c event → Goes event
  event_goes (Admit a v) may = let goes = quiet_goes (Admit a v) may (λ base same. cc) (λ s same. cc) in (is, goes.0, goes.1, goes.2, goes.3)
  event_goes (Grant a x) may = let goes = quiet_goes (Grant a x) may (λ base same. cc) (λ s same. cc) in (is, goes.0, goes.1, goes.2, goes.3)
  event_goes (Send p q) may = let goes = quiet_goes (Send p q) may (λ base same. cc) (λ s same. cc) in (is, goes.0, goes.1, goes.2, goes.3)
  event_goes (SendCall a) may = let goes = quiet_goes (SendCall a) may (λ base same. cc) (λ s same. cc) in (is, goes.0, goes.1, goes.2, goes.3)
  event_goes (SendReport a) may = let goes = quiet_goes (SendReport a) may (λ base same. cc) (λ s same. cc) in (is, goes.0, goes.1, goes.2, goes.3)
  event_goes (Deliver p q) may = let goes = quiet_goes (Deliver p q) may (λ base same. cc) (λ s same. cc) in (is, goes.0, goes.1, goes.2, goes.3)
  event_goes (DeliverCall a) may = let goes = quiet_goes (DeliverCall a) may (λ base same. cc) (λ s same. cc) in (is, goes.0, goes.1, goes.2, goes.3)
  event_goes (DeliverReport a) may = let goes = quiet_goes (DeliverReport a) may (λ base same. cc) (λ s same. cc) in (is, goes.0, goes.1, goes.2, goes.3)
  event_goes (Update s) may =
      let kept = update_kept st is c whole logged account s may (λ base same. cc) in
      (is, kept.0, logged ++ update_logged st c s may.1.vertex ∷ [], kept.1, update_based st c logged based s may (λ base same. cc))
  event_goes (Mark s) may = let goes = quiet_goes (Mark s) may (λ base same. cc) (λ s same. cc) in (is, goes.0, goes.1, goes.2, goes.3)
  event_goes (Section a) may = let goes = quiet_goes (Section a) may (λ base same. cc) (λ s same. cc) in (is, goes.0, goes.1, goes.2, goes.3)
  event_goes Record may = let goes = quiet_goes Record may (λ base same. cc) (λ s same. cc) in (is, goes.0, goes.1, goes.2, goes.3)
  event_goes PutBegin may = let goes = quiet_goes PutBegin may (λ base same. cc) (λ s same. cc) in (is, goes.0, goes.1, goes.2, goes.3)
  event_goes PutStep may = let goes = quiet_goes PutStep may (λ base same. cc) (λ s same. cc) in (is, goes.0, goes.1, goes.2, goes.3)
  event_goes PutWave may = let goes = quiet_goes PutWave may (λ base same. cc) (λ s same. cc) in (is, goes.0, goes.1, goes.2, goes.3)
  event_goes (Fail a) may = let goes = quiet_goes (Fail a) may (λ base same. cc) (λ s same. cc) in (is, goes.0, goes.1, goes.2, goes.3)
  event_goes (Recover base) may =
      let first = begun st is (are_coloured st st.engine c whole.apart) base c (next_base st is c whole logged account based base may) in
      (setting_is st is base, first.0, [], first.1, first.2)
  event_goes Stop may = let goes = quiet_goes Stop may (λ base same. cc) (λ s same. cc) in (is, goes.0, goes.1, goes.2, goes.3)

pub traces_go : (events : List Event) (st : Setting) → IsSetting st → (old new : Cluster) (whole : IsWhole st old) (logged : List Logged) → IsTrace st old events new → IsAccounted st old whole logged → IsBased st old logged →
    (next : IsWhole (setting_behind st events) new) × (now : List Logged) × IsAccounted (setting_behind st events) new next now × IsBased (setting_behind st events) new now
traces_go [] st is old new whole logged trace account based =
    subst (λ (c : Cluster). (next : IsWhole st c) × (now : List Logged) × IsAccounted st c next now × IsBased st c now) (sym trace) (whole, logged, account, based)
traces_go (event ∷ events) st is old new whole logged trace account based =
    let goes = event_goes st is old whole logged account based event trace.0.1 in
    traces_go events (setting_after st event) goes.0 (after_event st old event) new goes.1 goes.2 trace.1 goes.3 goes.4
