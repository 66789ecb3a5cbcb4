-- A machine that failed does nothing more in its attempt, and no snapshot that was acknowledged is taken back.
use Rattle.std.proofs.Common.{◌≡◌, ◌≢◌, ℕ, true, Option, List, [], ◌∷◌, ◌++◌, refl, sym, ◌∙◌, ap, subst, ⊎_elim, append-nil, append_assoc}
use Rattle.std.specs.List.{AllByRecursion}
use Rattle.std.proofs.lemmas.Bool.{both_ways, cases_eq}
use Rattle.gl_base.specs.declared.entries.Entry.TheVariants.{Go}
use Rattle.cluster_laws.specs.cluster_core.Messages.{Message}
use Rattle.cluster_laws.specs.cluster_core.Ranges.{set_at}
use Rattle.cluster_laws.specs.cluster_core.Settings.{Setting}
use Rattle.cluster_laws.proofs.cluster_core.Basics.{set_at-other}
use Rattle.cluster_laws.specs.cluster_model.Calls.{Call, Count, Report, Saved, Want}
use Rattle.cluster_laws.specs.cluster_model.Clusters.{Cluster}
use Rattle.cluster_laws.specs.cluster_model.Events.{Event, Admit, DeliverCall, DeliverReport, Deliver, Fail, Grant, IsAwake, IsTrace, Mark, MayDo, PutBegin, PutStep, PutWave, Record, Recover, Section, Send, SendCall, SendReport, Stop, Update, after_event, delivers_call, delivers_message, delivers_report, makes, saves, sends_call, sends_message, sends_report, setting_after}
use Rattle.cluster_laws.specs.cluster_model.Leading.{Snapshot}
use Rattle.cluster_laws.specs.cluster_model.Machines.{Machine}
use Rattle.cluster_laws.specs.cluster_model.Working.{admits, fails, grants, hands, hands_report, makes_mark, makes_update, prompt, receives, sections, takes_call}
use Rattle.whole_laws.specs.cluster_whole.Whole.{IsNoRecovery}
use Rattle.whole_laws.specs.cluster_records.Recorded.{snapshot_due}
use Rattle.whole_laws.proofs.cluster_records.Recording.{IsNoRecord, adds_none}

-- ---- a failed machine

module _ (st : Setting) (c : Cluster) (a : ℕ) (failed : (c.machine a).failed ≡ true) where
  -- another machine than one that runs
  other_machine : (b : ℕ) → IsAwake st c b → (new : Machine) → set_at c.machine b new a ≡ c.machine a
  other_machine b awake new =
      ⊎_elim
      (λ (at : a ≡ b). absurd (both_ways (c.machine a).failed (ap (λ (x : ℕ). (c.machine x).failed) at ∙ awake.runs) failed))
      (λ (off : a ≢ b). set_at-other c.machine b new a off)
      (cases_eq a b)

  report_stops : (b : ℕ) (report : Report) (behind : List Report) → (delivers_report c b (report ∷ behind)).machine a ≡ c.machine a
  report_stops b (Saved k section entries) behind = refl
  report_stops b (Count k counts) behind = refl
  report_stops b (Want k) behind = refl

  pub event_stops : (event : Event) → MayDo st c event → IsNoRecovery event → (after_event st c event).machine a ≡ c.machine a
  event_stops (Admit b v) may other = other_machine b may.0 (prompt st b (admits st b v (c.machine b)))
  event_stops (Grant b x) may other = other_machine b may.0 (prompt st b (grants st b x (c.machine b)))
  event_stops (Send p q) may other = subst (λ (ms : List Message). (sends_message c p q ms).machine a ≡ c.machine a) (sym may.2.first) (other_machine p may.0 (hands q may.2.behind (c.machine p)))
  event_stops (SendCall b) may other = subst (λ (calls : List Call). (sends_call c b calls).machine a ≡ c.machine a) (sym may.1.first) refl
  event_stops (SendReport b) may other = subst (λ (reports : List Report). (sends_report c b reports).machine a ≡ c.machine a) (sym may.1.first) (other_machine b may.0 (hands_report may.1.behind (c.machine b)))
  event_stops (Deliver p q) may other =
      subst (λ (ms : List Message). (delivers_message st c p q ms).machine a ≡ c.machine a) (sym may.2.first) (other_machine q may.0 (prompt st q (receives st q may.2.message (c.machine q))))
  event_stops (DeliverCall b) may other =
      subst (λ (calls : List Call). (delivers_call st c b calls).machine a ≡ c.machine a) (sym may.1.first) (other_machine b may.0 (prompt st b (takes_call st b may.1.message (c.machine b))))
  event_stops (DeliverReport b) may other =
      subst (λ (reports : List Report). (delivers_report c b reports).machine a ≡ c.machine a) (sym may.1.first) (report_stops b may.1.message may.1.behind)
  event_stops (Update s) may other =
      subst (λ (flight : Option ℕ). (makes st c s flight).machine a ≡ c.machine a) (sym may.1.flight)
      (other_machine s.home.0 may.0 (prompt st s.home.0 (makes_update st s.home.0 s may.1.vertex (Go s.home (record { 0 = may.1.vertex }) c.next) (c.machine s.home.0))))
  event_stops (Mark s) may other =
      subst (λ (flight : Option ℕ). (saves st c s flight).machine a ≡ c.machine a) (sym may.1.flight)
      (other_machine s.home.0 may.0 (prompt st s.home.0 (makes_mark st s.home.0 s may.1.vertex (c.machine s.home.0))))
  event_stops (Section b) may other = other_machine b may.0 (prompt st b (sections (c.machine b)))
  event_stops Record may other = refl
  event_stops PutBegin may other = refl
  event_stops PutStep may other = refl
  event_stops PutWave may other = refl
  event_stops (Fail b) may other = other_machine b may (fails (c.machine b))
  event_stops (Recover base) may other = absurd (other base refl)
  event_stops Stop may other = refl

pub trace_stops : (events : List Event) (st : Setting) → AllByRecursion IsNoRecovery events → (old new : Cluster) (a : ℕ) → IsTrace st old events new → (old.machine a).failed ≡ true → new.machine a ≡ old.machine a
trace_stops [] st none old new a trace failed = λ i. (trace i).machine a
trace_stops (event ∷ events) st none old new a trace failed =
    let one : (after_event st old event).machine a ≡ old.machine a = event_stops st old a failed event trace.0.1 none.0 in
    trace_stops events (setting_after st event) none.1 (after_event st old event) new a trace.1 (ap (λ (m : Machine). m.failed) one ∙ failed) ∙ one

-- ---- an acknowledged snapshot

-- the snapshots of one cluster, and more behind them
abbrev HasMore : Cluster → Cluster → Type 0
HasMore old new = (more : List Snapshot) × (new.coordinator.snapshots ≡ old.coordinator.snapshots ++ more)

event_adds : (st : Setting) (c : Cluster) (event : Event) → MayDo st c event → IsNoRecovery event → IsNoRecord event → HasMore c (after_event st c event)
event_adds st c event may other none = ([], (adds_none st c event may other none).0 ∙ sym (append-nil c.coordinator.snapshots))

pub event_keeps : (st : Setting) (c : Cluster) (event : Event) → MayDo st c event → IsNoRecovery event → HasMore c (after_event st c event)
event_keeps st c (Admit a v) may other = event_adds st c (Admit a v) may other (λ same. cc)
event_keeps st c (Grant a x) may other = event_adds st c (Grant a x) may other (λ same. cc)
event_keeps st c (Send p q) may other = event_adds st c (Send p q) may other (λ same. cc)
event_keeps st c (SendCall a) may other = event_adds st c (SendCall a) may other (λ same. cc)
event_keeps st c (SendReport a) may other = event_adds st c (SendReport a) may other (λ same. cc)
event_keeps st c (Deliver p q) may other = event_adds st c (Deliver p q) may other (λ same. cc)
event_keeps st c (DeliverCall a) may other = event_adds st c (DeliverCall a) may other (λ same. cc)
event_keeps st c (DeliverReport a) may other = event_adds st c (DeliverReport a) may other (λ same. cc)
event_keeps st c (Update s) may other = event_adds st c (Update s) may other (λ same. cc)
event_keeps st c (Mark s) may other = event_adds st c (Mark s) may other (λ same. cc)
event_keeps st c (Section a) may other = event_adds st c (Section a) may other (λ same. cc)
event_keeps st c Record may other = (snapshot_due c.coordinator ∷ [], refl)
event_keeps st c PutBegin may other = event_adds st c PutBegin may other (λ same. cc)
event_keeps st c PutStep may other = event_adds st c PutStep may other (λ same. cc)
event_keeps st c PutWave may other = event_adds st c PutWave may other (λ same. cc)
event_keeps st c (Fail a) may other = event_adds st c (Fail a) may other (λ same. cc)
event_keeps st c (Recover base) may other = absurd (other base refl)
event_keeps st c Stop may other = event_adds st c Stop may other (λ same. cc)

pub trace_keeps : (events : List Event) (st : Setting) → AllByRecursion IsNoRecovery events → (old new : Cluster) → IsTrace st old events new → HasMore old new
trace_keeps [] st none old new trace = ([], (λ i. (trace i).coordinator.snapshots) ∙ sym (append-nil old.coordinator.snapshots))
trace_keeps (event ∷ events) st none old new trace =
    let one = event_keeps st old event trace.0.1 none.0 in
    let rest = trace_keeps events (setting_after st event) none.1 (after_event st old event) new trace.1 in
    (one.0 ++ rest.0, rest.1 ∙ ap (λ (ss : List Snapshot). ss ++ rest.0) one.1 ∙ append_assoc old.coordinator.snapshots one.0 rest.0)
