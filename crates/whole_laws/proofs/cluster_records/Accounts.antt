-- Each event but a recovery keeps account of the updates, and a recovery begins with none.
use Rattle.std.proofs.Common.{◌≡◌, ℕ, suc, ◌<◌, ◌≤◌, nat_lt, Bool, true, false, if◌then◌else◌, None, Some, List, [], ◌∷◌, ◌++◌, refl, sym, subst, append-nil, arith}
use Rattle.std.specs.List.{AllByRecursion}
use Rattle.gl_base.specs.declared.entries.Entry.{Entry}
use Rattle.gl_base.specs.declared.scopes.ScopeId.{ScopeId}
use Rattle.graph_core.proofs.HalvesLaws.{each-append}
use Rattle.cluster_laws.specs.cluster_core.Recovering.{going_on}
use Rattle.cluster_laws.specs.cluster_core.Settings.{IsSetting, Setting}
use Rattle.cluster_laws.specs.cluster_model.Clusters.{BaseView, Cluster}
use Rattle.cluster_laws.specs.cluster_model.Events.{Event, Admit, DeliverCall, DeliverReport, Deliver, Fail, Grant, Mark, MayDo, PutBegin, PutStep, PutWave, Record, Recover, Section, Send, SendCall, SendReport, Stop, Update, after_event, recovers}
use Rattle.cluster_laws.specs.cluster_model.Leading.{Come}
use Rattle.whole_laws.specs.cluster_whole.Logged.{Logged}
use Rattle.whole_laws.specs.cluster_whole.Whole.{AreColoured, IsNoRecovery, IsWhole}
use Rattle.whole_laws.proofs.cluster_whole.Wholeness.{recovered_logs}
use Rattle.whole_laws.specs.cluster_records.Recorded.{AreGoodSnapshots, IsAccounted, IsSinceBase}
use Rattle.whole_laws.proofs.cluster_records.Coming.{events_coming, update_coming}
use Rattle.whole_laws.proofs.cluster_records.Entering.{IsNoUpdate, draws_none, next_whole, own_logged, still_logged, update_logged}
use Rattle.whole_laws.proofs.cluster_records.Listed.{events_listed, own_mark, update_listed}
use Rattle.whole_laws.proofs.cluster_records.Recording.{IsNoRecord, adds_none, more_recorded, one_recorded, still_recorded}

above : (low mark : ℕ) → low ≤ mark → low < suc mark
above low mark is = omega arith

above_base : (base low mark : ℕ) → base ≤ low → low ≤ mark → base < suc mark
above_base base low mark one two = omega arith

-- ---- a recovery

abbrev no_entries : List Entry
no_entries = []

if_same : (test : Bool) → no_entries ≡ (if test then no_entries else no_entries)
if_same true = refl
if_same false = refl

none_some : (come : Come) → None ≡ Some come → ⊥
none_some come is = cc

begun_recorded : (st : Setting) (base : BaseView) (c : Cluster) → AreGoodSnapshots (going_on st base.numbers base.number) (recovers st base c) []
begun_recorded st base c = record { numbered = refl; good = tt }

pub begun_accounts : (st : Setting) → IsSetting st → AreColoured st st.engine → (base : BaseView) (c : Cluster) →
    (whole : IsWhole (going_on st base.numbers base.number) (recovers st base c)) × IsAccounted (going_on st base.numbers base.number) (recovers st base c) whole []
begun_accounts st is coloured base c =
    let begun = recovered_logs st is coloured base c in (
      begun.0,
      record {
        order = begun.1;
        since = tt;
        lists = λ a low. record { before = if_same (nat_lt base.number base.number); behind = refl; next = tt };
        sections = λ a low. record { told = tt; come = λ x here. absurd (none_some x here) };
        records = begun_recorded st base c;
      },
    )

-- ---- every other event

module _ (st : Setting) (is : IsSetting st) (c : Cluster) (whole : IsWhole st c) (logged : List Logged) (account : IsAccounted st c whole logged) where
  pub update_kept : (s : ScopeId) (may : MayDo st c (Update s)) (other : IsNoRecovery (Update s)) →
      (next : IsWhole st (after_event st c (Update s))) × IsAccounted st (after_event st c (Update s)) next (logged ++ update_logged st c s may.1.vertex ∷ [])
      × (c.coordinator.acknowledged < (update_logged st c s may.1.vertex).number)
  update_kept s may other =
      let v : ℕ = may.1.vertex in
      let l : Logged = update_logged st c s v in
      let own = own_logged st is c whole logged account.order s may other in
      let mark = (own_mark st is c whole s.home.0 v own.1 own.0).0 in
      let high : c.coordinator.acknowledged < l.number = above c.coordinator.acknowledged ((c.machine s.home.0).part.datum v).mark mark in (
        next_whole st is c whole (Update s) may other,
        record {
          order = own.2;
          since = each-append (IsSinceBase st) logged (l ∷ []) account.since ((above_base st.base c.coordinator.acknowledged ((c.machine s.home.0).part.datum v).mark whole.consistent.marks.base mark, (own.1, own.0)), tt);
          lists = update_listed st is c whole logged account.lists s may own.0 own.1;
          sections = update_coming st is c whole logged account.sections s may own.0 own.1;
          records = still_recorded st is c whole (logged ++ l ∷ []) (more_recorded st is c whole logged account.records l high) (after_event st c (Update s)) (adds_none st c (Update s) may other (λ same. cc));
        },
        high,
      )

  -- an event that makes no update, where the snapshots stay good
  unlogged : (event : Event) (may : MayDo st c event) (other : IsNoRecovery event) → IsNoUpdate event → AreGoodSnapshots st (after_event st c event) logged →
      (next : IsWhole st (after_event st c event)) × IsAccounted st (after_event st c event) next (logged ++ [])
  unlogged event may other none records =
      let next : IsWhole st (after_event st c event) = next_whole st is c whole event may other in (
        next,
        subst (IsAccounted st (after_event st c event) next) (sym (append-nil logged)) (record {
          order = still_logged st is c whole logged account.order event may other (draws_none st c event may none);
          since = account.since;
          lists = events_listed st is c whole logged account.lists event may other none;
          sections = events_coming st is c whole logged account.sections account.lists event may other none;
          records = records;
        }),
      )

  still : (event : Event) → MayDo st c event → IsNoRecovery event → IsNoRecord event → AreGoodSnapshots st (after_event st c event) logged
  still event may other none = still_recorded st is c whole logged account.records (after_event st c event) (adds_none st c event may other none)

  -- the snapshots stay good, and a record adds one
  records_kept : (event : Event) → MayDo st c event → IsNoRecovery event → IsNoUpdate event → AreGoodSnapshots st (after_event st c event) logged
  records_kept (Admit a v) may other none = still (Admit a v) may other (λ same. cc)
  records_kept (Grant a x) may other none = still (Grant a x) may other (λ same. cc)
  records_kept (Send p q) may other none = still (Send p q) may other (λ same. cc)
  records_kept (SendCall a) may other none = still (SendCall a) may other (λ same. cc)
  records_kept (SendReport a) may other none = still (SendReport a) may other (λ same. cc)
  records_kept (Deliver p q) may other none = still (Deliver p q) may other (λ same. cc)
  records_kept (DeliverCall a) may other none = still (DeliverCall a) may other (λ same. cc)
  records_kept (DeliverReport a) may other none = still (DeliverReport a) may other (λ same. cc)
  records_kept (Update s) may other none = absurd (none s refl)
  records_kept (Mark s) may other none = still (Mark s) may other (λ same. cc)
  records_kept (Section a) may other none = still (Section a) may other (λ same. cc)
  records_kept Record may other none = one_recorded st is c whole logged account.records account.order account.sections may.0
  records_kept PutBegin may other none = still PutBegin may other (λ same. cc)
  records_kept PutStep may other none = still PutStep may other (λ same. cc)
  records_kept PutWave may other none = still PutWave may other (λ same. cc)
  records_kept (Fail a) may other none = still (Fail a) may other (λ same. cc)
  records_kept (Recover base) may other none = absurd (other base refl)
  records_kept Stop may other none = still Stop may other (λ same. cc)

  pub quiet_kept : (event : Event) (may : MayDo st c event) (other : IsNoRecovery event) → IsNoUpdate event → (next : IsWhole st (after_event st c event)) × IsAccounted st (after_event st c event) next (logged ++ [])
  quiet_kept event may other none = unlogged event may other none (records_kept event may other none)

  -- what an event leaves
  abbrev Leaves : Event → Type 0
  Leaves event = (next : IsWhole st (after_event st c event)) × (more : List Logged) × AllByRecursion (λ l. c.coordinator.acknowledged < l.number) more
      × IsAccounted st (after_event st c event) next (logged ++ more)

  quiet : (event : Event) (may : MayDo st c event) (other : IsNoRecovery event) → IsNoUpdate event → Leaves event
  quiet event may other none = let kept = quiet_kept event may other none in (kept.0, [], tt, kept.1)

  pub accounts_kept : (event : Event) → MayDo st c event → IsNoRecovery event → Leaves event
  accounts_kept (Admit a v) may other = quiet (Admit a v) may other (λ s same. cc)
  accounts_kept (Grant a x) may other = quiet (Grant a x) may other (λ s same. cc)
  accounts_kept (Send p q) may other = quiet (Send p q) may other (λ s same. cc)
  accounts_kept (SendCall a) may other = quiet (SendCall a) may other (λ s same. cc)
  accounts_kept (SendReport a) may other = quiet (SendReport a) may other (λ s same. cc)
  accounts_kept (Deliver p q) may other = quiet (Deliver p q) may other (λ s same. cc)
  accounts_kept (DeliverCall a) may other = quiet (DeliverCall a) may other (λ s same. cc)
  accounts_kept (DeliverReport a) may other = quiet (DeliverReport a) may other (λ s same. cc)
  accounts_kept (Update s) may other = let kept = update_kept s may other in (kept.0, update_logged st c s may.1.vertex ∷ [], (kept.2, tt), kept.1)
  accounts_kept (Mark s) may other = quiet (Mark s) may other (λ s same. cc)
  accounts_kept (Section a) may other = quiet (Section a) may other (λ s same. cc)
  accounts_kept Record may other = quiet Record may other (λ s same. cc)
  accounts_kept PutBegin may other = quiet PutBegin may other (λ s same. cc)
  accounts_kept PutStep may other = quiet PutStep may other (λ s same. cc)
  accounts_kept PutWave may other = quiet PutWave may other (λ s same. cc)
  accounts_kept (Fail a) may other = quiet (Fail a) may other (λ s same. cc)
  accounts_kept (Recover base) may other = absurd (other base refl)
  accounts_kept Stop may other = quiet Stop may other (λ s same. cc)
