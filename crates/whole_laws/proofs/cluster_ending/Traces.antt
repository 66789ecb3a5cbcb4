-- Each event, and every list of events, keeps the waves; and what is known where no snapshot begins.
use Rattle.std.proofs.Common.{◌≡◌, ℕ, suc, ◌+◌, ◌<◌, ◌≤◌, Bool, true, false, if◌then◌else◌, Option, None, Some, List, [], ◌∷◌, refl, sym, ◌∙◌, subst, le_antisymm, le_refl, le_trans, arith}
use Rattle.std.specs.List.{AllByRecursion}
use Rattle.gl_base.specs.declared.scopes.ScopeId.{ScopeId}
use Rattle.cluster_laws.specs.cluster_core.Messages.{Message}
use Rattle.cluster_laws.specs.cluster_core.Recovering.{going_on}
use Rattle.cluster_laws.specs.cluster_core.Settings.{IsSetting, Setting}
use Rattle.cluster_laws.specs.cluster_model.Calls.{Call, Count, Report, Saved, Want}
use Rattle.cluster_laws.specs.cluster_model.Clusters.{BaseView, Cluster}
use Rattle.cluster_laws.specs.cluster_model.Events.{Event, Admit, DeliverCall, DeliverReport, Deliver, Fail, Grant, Mark, MayDo, IsTrace, PutBegin, PutStep, PutWave, Record, Recover, Section, Send, SendCall, SendReport, Stop, Update, after_event, delivers_call, delivers_message, delivers_report, makes, recovers, saves, sends_call, sends_message, sends_report, setting_after}
use Rattle.cluster_laws.specs.cluster_model.Leading.{HasSeenTheEnd}
use Rattle.whole_laws.specs.cluster_whole.Whole.{AreColoured, IsNoRecovery, IsWhole, setting_behind}
use Rattle.whole_laws.proofs.cluster_whole.Wholeness.{begun_is, event_moved, is_exclusive, recovered_whole, whole_kept}
use Rattle.whole_laws.specs.cluster_ending.Ends.{HasEnded, IsFollowed, IsNoBegin}
use Rattle.whole_laws.specs.cluster_ending.Watched.{IsWatched, Watch, puts_wave_out}
use Rattle.whole_laws.proofs.cluster_ending.Finding.{at_rest, rest_ends}
use Rattle.whole_laws.proofs.cluster_ending.Putting.{recovered_watched}
use Rattle.whole_laws.proofs.cluster_ending.Turns.{watch_of}
use Rattle.whole_laws.proofs.cluster_ending.Watching.{event_watched}

-- ---- the setting behind an event

pub setting_same : (st : Setting) (event : Event) → IsNoRecovery event → setting_after st event ≡ st
setting_same st (Admit a v) other = refl
setting_same st (Grant a x) other = refl
setting_same st (Send p q) other = refl
setting_same st (SendCall a) other = refl
setting_same st (SendReport a) other = refl
setting_same st (Deliver p q) other = refl
setting_same st (DeliverCall a) other = refl
setting_same st (DeliverReport a) other = refl
setting_same st (Update s) other = refl
setting_same st (Mark s) other = refl
setting_same st (Section a) other = refl
setting_same st Record other = refl
setting_same st PutBegin other = refl
setting_same st PutStep other = refl
setting_same st PutWave other = refl
setting_same st (Fail a) other = refl
setting_same st Stop other = refl
setting_same st (Recover base) other = absurd (other base refl)

pub setting_is : (st : Setting) → IsSetting st → (event : Event) → IsSetting (setting_after st event)
setting_is st is (Admit a v) = is
setting_is st is (Grant a x) = is
setting_is st is (Send p q) = is
setting_is st is (SendCall a) = is
setting_is st is (SendReport a) = is
setting_is st is (Deliver p q) = is
setting_is st is (DeliverCall a) = is
setting_is st is (DeliverReport a) = is
setting_is st is (Update s) = is
setting_is st is (Mark s) = is
setting_is st is (Section a) = is
setting_is st is Record = is
setting_is st is PutBegin = is
setting_is st is PutStep = is
setting_is st is PutWave = is
setting_is st is (Fail a) = is
setting_is st is Stop = is
setting_is st is (Recover base) = begun_is st is base

-- ---- each event, and every list of events

-- the waves behind an event
abbrev pub WatchBehind : Setting → Cluster → Event → Watch → Watch → Type 0
WatchBehind st c event watch later =
    IsWatched st (after_event st c event) later
    × (later.begun_before ≡ (if puts_wave_out event then watch.begun_newest else watch.begun_before))
    × (later.begun_newest ≡ (if puts_wave_out event then c.coordinator.begun else watch.begun_newest))

pub event_kept : (st : Setting) → IsSetting st → (c : Cluster) → IsWhole st c → (watch : Watch) → IsWatched st c watch → (event : Event) → MayDo st c event → IsNoRecovery event → (later : Watch) × WatchBehind st c event watch later
event_kept st is c whole watch was event may other =
    let kept = event_watched st is c whole.consistent.copies (is_exclusive st is c whole) watch.turn watch.begun_before watch.begun_newest was event may other in
    (watch_of kept.0 (if puts_wave_out event then watch.begun_newest else watch.begun_before) (if puts_wave_out event then c.coordinator.begun else watch.begun_newest), (kept.1, refl, refl))

moved : (st : Setting) → IsSetting st → (c : Cluster) → IsFollowed st c → (event : Event) → MayDo st c event → IsNoRecovery event → (later : Watch) × IsWatched st (after_event st c event) later
moved st is c followed event may other =
    let kept = event_kept st is c followed.0 followed.1 followed.2 event may other in
    (kept.0, kept.1.0)

pub watch_kept : (st : Setting) → IsSetting st → (c : Cluster) → IsFollowed st c → (event : Event) → MayDo st c event → (later : Watch) × IsWatched (setting_after st event) (after_event st c event) later
watch_kept st is c followed (Admit a v) may = moved st is c followed (Admit a v) may (λ base same. cc)
watch_kept st is c followed (Grant a x) may = moved st is c followed (Grant a x) may (λ base same. cc)
watch_kept st is c followed (Send p q) may = moved st is c followed (Send p q) may (λ base same. cc)
watch_kept st is c followed (SendCall a) may = moved st is c followed (SendCall a) may (λ base same. cc)
watch_kept st is c followed (SendReport a) may = moved st is c followed (SendReport a) may (λ base same. cc)
watch_kept st is c followed (Deliver p q) may = moved st is c followed (Deliver p q) may (λ base same. cc)
watch_kept st is c followed (DeliverCall a) may = moved st is c followed (DeliverCall a) may (λ base same. cc)
watch_kept st is c followed (DeliverReport a) may = moved st is c followed (DeliverReport a) may (λ base same. cc)
watch_kept st is c followed (Update s) may = moved st is c followed (Update s) may (λ base same. cc)
watch_kept st is c followed (Mark s) may = moved st is c followed (Mark s) may (λ base same. cc)
watch_kept st is c followed (Section a) may = moved st is c followed (Section a) may (λ base same. cc)
watch_kept st is c followed Record may = moved st is c followed Record may (λ base same. cc)
watch_kept st is c followed PutBegin may = moved st is c followed PutBegin may (λ base same. cc)
watch_kept st is c followed PutStep may = moved st is c followed PutStep may (λ base same. cc)
watch_kept st is c followed PutWave may = moved st is c followed PutWave may (λ base same. cc)
watch_kept st is c followed (Fail a) may = moved st is c followed (Fail a) may (λ base same. cc)
watch_kept st is c followed Stop may = moved st is c followed Stop may (λ base same. cc)
watch_kept st is c followed (Recover base) may = (_, recovered_watched st (setting_after st (Recover base)) base c refl refl)

pub traces_followed : (st : Setting) → IsSetting st → (events : List Event) (old new : Cluster) → IsFollowed st old → IsTrace st old events new → IsFollowed (setting_behind st events) new
traces_followed st is [] old new followed trace = subst (IsFollowed st) (sym trace) followed
traces_followed st is (event ∷ events) old new followed trace =
    let mid : Cluster = after_event st old event in
    let next = watch_kept st is old followed event trace.0.1 in
    traces_followed (setting_after st event) (setting_is st is event) events mid new (whole_kept st is old followed.0 event trace.0.1, next.0, next.1) trace.1

-- ---- where no snapshot begins

-- what the coordinator has put out and begun
abbrev put_of : Cluster → ℕ
put_of c = c.coordinator.rounds.counting.put_out

abbrev SameNumbers : Cluster → Cluster → Type 0
SameNumbers c new = (put_of new ≡ put_of c) × (new.coordinator.begun ≡ c.coordinator.begun)

sends_same : (c : Cluster) (p q : ℕ) (messages : List Message) → SameNumbers c (sends_message c p q messages)
sends_same c p q [] = (refl, refl)
sends_same c p q (m ∷ behind) = (refl, refl)

sends_call_same : (c : Cluster) (a : ℕ) (calls : List Call) → SameNumbers c (sends_call c a calls)
sends_call_same c a [] = (refl, refl)
sends_call_same c a (call ∷ behind) = (refl, refl)

sends_report_same : (c : Cluster) (a : ℕ) (reports : List Report) → SameNumbers c (sends_report c a reports)
sends_report_same c a [] = (refl, refl)
sends_report_same c a (report ∷ behind) = (refl, refl)

delivers_same : (st : Setting) (c : Cluster) (p q : ℕ) (messages : List Message) → SameNumbers c (delivers_message st c p q messages)
delivers_same st c p q [] = (refl, refl)
delivers_same st c p q (m ∷ behind) = (refl, refl)

delivers_call_same : (st : Setting) (c : Cluster) (a : ℕ) (calls : List Call) → SameNumbers c (delivers_call st c a calls)
delivers_call_same st c a [] = (refl, refl)
delivers_call_same st c a (call ∷ behind) = (refl, refl)

delivers_report_same : (c : Cluster) (a : ℕ) (reports : List Report) → SameNumbers c (delivers_report c a reports)
delivers_report_same c a [] = (refl, refl)
delivers_report_same c a (Saved k section entries ∷ behind) = (refl, refl)
delivers_report_same c a (Count k counts ∷ behind) = (refl, refl)
delivers_report_same c a (Want k ∷ behind) = (refl, refl)

makes_same : (st : Setting) (c : Cluster) (s : ScopeId) (flight : Option ℕ) → SameNumbers c (makes st c s flight)
makes_same st c s None = (refl, refl)
makes_same st c s (Some v) = (refl, refl)

saves_same : (st : Setting) (c : Cluster) (s : ScopeId) (flight : Option ℕ) → SameNumbers c (saves st c s flight)
saves_same st c s None = (refl, refl)
saves_same st c s (Some v) = (refl, refl)

-- a wave more, or none; and no snapshot begins
abbrev GoesOnTo : Event → Cluster → Cluster → Type 0
GoesOnTo event c new = (put_of new ≡ (if puts_wave_out event then suc (put_of c) else put_of c)) × (new.coordinator.begun ≡ c.coordinator.begun)

pub numbers_after : (st : Setting) (c : Cluster) (event : Event) → IsNoRecovery event → IsNoBegin event → GoesOnTo event c (after_event st c event)
numbers_after st c (Admit a v) other no_begin = (refl, refl)
numbers_after st c (Grant a x) other no_begin = (refl, refl)
numbers_after st c (Send p q) other no_begin = sends_same c p q ((c.machine p).part.out q)
numbers_after st c (SendCall a) other no_begin = sends_call_same c a (c.coordinator.out a)
numbers_after st c (SendReport a) other no_begin = sends_report_same c a (c.machine a).out
numbers_after st c (Deliver p q) other no_begin = delivers_same st c p q (c.link p q)
numbers_after st c (DeliverCall a) other no_begin = delivers_call_same st c a (c.calls a)
numbers_after st c (DeliverReport a) other no_begin = delivers_report_same c a (c.reports a)
numbers_after st c (Update s) other no_begin = makes_same st c s ((c.machine s.home.0).part.flight s)
numbers_after st c (Mark s) other no_begin = saves_same st c s ((c.machine s.home.0).part.flight s)
numbers_after st c (Section a) other no_begin = (refl, refl)
numbers_after st c Record other no_begin = (refl, refl)
numbers_after st c PutBegin other no_begin = absurd (no_begin refl)
numbers_after st c PutStep other no_begin = (refl, refl)
numbers_after st c PutWave other no_begin = (refl, refl)
numbers_after st c (Fail a) other no_begin = (refl, refl)
numbers_after st c (Recover base) other no_begin = absurd (other base refl)
numbers_after st c Stop other no_begin = (refl, refl)

-- Since the coordinator had put so many waves out and begun so many snapshots, it began none.
record IsSince (put begun : ℕ) (c : Cluster) (watch : Watch) : Type 0 where
  put_low : put ≤ put_of c
  same : c.coordinator.begun ≡ begun
  newest : put < put_of c → begun ≤ watch.begun_newest
  before : suc put < put_of c → begun ≤ watch.begun_before

suc_later : (n m : ℕ) → n ≤ m → n ≤ suc m
suc_later n m low = omega arith

pred_less : (n m : ℕ) → suc n < suc m → n < m
pred_less n m less = omega arith

not_since : (n : ℕ) → n < n → ⊥
not_since n less = omega arith

two_more : (n m : ℕ) → 2 + n ≤ m → suc n < m
two_more n m low = omega arith

-- by whether the event puts a wave out
since_by : (put begun : ℕ) (c new : Cluster) (watch later : Watch) (test : Bool) → IsSince put begun c watch → put_of new ≡ (if test then suc (put_of c) else put_of c) → new.coordinator.begun ≡ c.coordinator.begun →
    later.begun_before ≡ (if test then watch.begun_newest else watch.begun_before) → later.begun_newest ≡ (if test then c.coordinator.begun else watch.begun_newest) → IsSince put begun new later
since_by put begun c new watch later true since put_is begun_is before newest =
    record {
      put_low = subst (λ (n : ℕ). put ≤ n) (sym put_is) (suc_later put (put_of c) since.put_low);
      same = begun_is ∙ since.same;
      newest = λ less. subst (λ (n : ℕ). begun ≤ n) (sym (newest ∙ since.same)) (le_refl begun);
      before = λ less. subst (λ (n : ℕ). begun ≤ n) (sym before) (since.newest (pred_less put (put_of c) (subst (λ (n : ℕ). suc put < n) put_is less)));
    }
since_by put begun c new watch later false since put_is begun_is before newest =
    record {
      put_low = subst (λ (n : ℕ). put ≤ n) (sym put_is) since.put_low;
      same = begun_is ∙ since.same;
      newest = λ less. subst (λ (n : ℕ). begun ≤ n) (sym newest) (since.newest (subst (λ (n : ℕ). put < n) put_is less));
      before = λ less. subst (λ (n : ℕ). begun ≤ n) (sym before) (since.before (subst (λ (n : ℕ). suc put < n) put_is less));
    }

since_kept : (st : Setting) → IsSetting st → (put begun : ℕ) (events : List Event) → AllByRecursion IsNoRecovery events → AllByRecursion IsNoBegin events → (old new : Cluster) → IsWhole st old → (watch : Watch) → IsWatched st old watch → IsSince put begun old watch →
    IsTrace st old events new → IsWhole st new × (later : Watch) × IsWatched st new later × IsSince put begun new later
since_kept st is put begun [] others no_begins old new whole watch was since trace =
    subst (λ (c : Cluster). IsWhole st c × (later : Watch) × IsWatched st c later × IsSince put begun c later) (sym trace) (whole, watch, was, since)
since_kept st is put begun (event ∷ events) others no_begins old new whole watch was since trace =
    let mid : Cluster = after_event st old event in
    let kept = event_kept st is old whole watch was event trace.0.1 others.0 in
    let later : Watch = kept.0 in
    let numbers = numbers_after st old event others.0 no_begins.0 in
    let rest : IsTrace st mid events new = subst (λ (s : Setting). IsTrace s mid events new) (setting_same st event others.0) trace.1 in
    since_kept st is put begun events others.1 no_begins.1 mid new (event_moved st is old whole event trace.0.1 others.0) later kept.1.0
    (since_by put begun old mid watch later (puts_wave_out event) since numbers.0 numbers.1 kept.1.1 kept.1.2) rest

pub since_ends : (st : Setting) → IsSetting st → (events : List Event) → AllByRecursion IsNoRecovery events → AllByRecursion IsNoBegin events → (old new : Cluster) → IsFollowed st old → IsTrace st old events new →
    2 + put_of old ≤ put_of new → HasSeenTheEnd new.coordinator → HasEnded st new
since_ends st is events others no_begins old new followed trace two end =
    let first : IsSince (put_of old) old.coordinator.begun old followed.1 =
    record { put_low = le_refl (put_of old); same = refl; newest = λ less. absurd (not_since (put_of old) less); before = λ less. absurd (suc_since (put_of old) less) } in
    let kept = since_kept st is (put_of old) old.coordinator.begun events others no_begins old new followed.0 followed.1 followed.2 first trace in
    let later : Watch = kept.1 in
    let was : IsWatched st new later = kept.2 in
    let since : IsSince (put_of old) old.coordinator.begun new later = kept.3 in
    let low : old.coordinator.begun ≤ later.begun_before = since.before (two_more (put_of old) (put_of new) two) in
    let high : later.begun_before ≤ new.coordinator.begun = le_trans was.numbers.1 was.numbers.2 in
    rest_ends st new kept.0 (at_rest st new later was end (le_antisymm high (subst (λ (n : ℕ). n ≤ later.begun_before) (sym since.same) low)))
  where
    suc_since : (n : ℕ) → suc n < n → ⊥
    suc_since n less = omega arith

-- ---- from the start of an attempt on

setting_behind_is : (st : Setting) → IsSetting st → (events : List Event) → IsSetting (setting_behind st events)
setting_behind_is st is [] = is
setting_behind_is st is (event ∷ events) = setting_behind_is (setting_after st event) (setting_is st is event) events

-- the setting then, and that the cluster is followed
pub record IsBegun (st : Setting) (c : Cluster) : Type 0 where
  pub is : IsSetting st
  pub followed : IsFollowed st c

pub start_followed : (st : Setting) → IsSetting st → AreColoured st st.engine → (base : BaseView) (first : Cluster) (events : List Event) (c : Cluster) → IsTrace (going_on st base.numbers base.number) (recovers st base first) events c →
    IsBegun (setting_behind (going_on st base.numbers base.number) events) c
start_followed st is coloured base first events c trace =
    let begun : Setting = going_on st base.numbers base.number in
    let begun_set : IsSetting begun = begun_is st is base in
    record {
      is = setting_behind_is begun begun_set events;
      followed = traces_followed begun begun_set events (recovers st base first) c (recovered_whole st is coloured base first, _, recovered_watched st begun base first refl refl) trace;
    }
