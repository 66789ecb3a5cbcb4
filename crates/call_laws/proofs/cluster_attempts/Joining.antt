-- Every list of events in a call makes attempts, one after another.
use Rattle.std.proofs.Common.{◌≡◌, ◌≤◌, ℕ, suc, ◌+◌, Option, List, [], ◌∷◌, ◌++◌, length, refl, sym, ap, ap₂, ◌∙◌, subst, append_assoc, append-nil, arith}
use Rattle.std.specs.List.{AllByRecursion}
use Rattle.std.proofs.lemmas.List.{length-append}
use Rattle.gl_base.specs.declared.entries.Entry.{Entry}
use Rattle.gl_base.specs.declared.entries.Entry.TheVariants.{Go}
use Rattle.gl_base.specs.declared.jobs.FailureAt.{FailureAt}
use Rattle.gl_base.specs.declared.scopes.ScopeId.{ScopeId}
use Rattle.cluster_laws.specs.cluster_core.Messages.{Ask, Done, Message, Ready}
use Rattle.cluster_laws.specs.cluster_core.Settings.{IsSetting, Setting}
use Rattle.cluster_laws.proofs.cluster_core.Basics.{set_at-kept}
use Rattle.cluster_laws.proofs.cluster_cuts.CutsGoOn.{updates_from-append}
use Rattle.cluster_laws.specs.cluster_model.Calls.{Begin, Call, Committed, Count, Report, Saved, Step, Want, Wave}
use Rattle.cluster_laws.specs.cluster_model.Clusters.{BaseView, Cluster, with_machine}
use Rattle.cluster_laws.specs.cluster_model.Events.{Event, Admit, DeliverCall, DeliverReport, Deliver, Fail, GoesBackTo, Grant, IsTrace, Mark, MayDo, PutBegin, PutStep, PutWave, Record, Recover, Section, Send, SendCall, SendReport, Stop, Update, after_event, delivers_call, delivers_message, delivers_report, failures_in, makes, recovers, saves, sends_call, sends_message, sends_report, setting_after}
use Rattle.cluster_laws.specs.cluster_model.Machines.{Machine, completed}
use Rattle.cluster_laws.specs.cluster_model.Working.{admits, fails, grants, hands, hands_report, makes_mark, makes_update, prompt, receives, sections, takes_call}
use Rattle.cluster_laws.specs.cluster_runs.Recorded.{shared_of}
use Rattle.whole_laws.specs.cluster_whole.Logged.{Logged, all_entries, entries_to}
use Rattle.whole_laws.specs.cluster_whole.Whole.{IsNoRecovery, IsWhole, setting_behind}
use Rattle.whole_laws.specs.cluster_records.Bases.{IsBased}
use Rattle.whole_laws.specs.cluster_records.Recorded.{IsAccounted}
use Rattle.whole_laws.proofs.cluster_records.Accounts.{quiet_kept, update_kept}
use Rattle.whole_laws.proofs.cluster_records.Based.{base_kept, base_order, next_base, still_based, update_based}
use Rattle.whole_laws.proofs.cluster_records.Traces.{are_coloured, begun}
use Rattle.whole_laws.proofs.cluster_records.Entering.{IsNoUpdate, draws_none, update_logged}
use Rattle.whole_laws.proofs.cluster_records.Filtering.{all-more}
use Rattle.call_laws.specs.attempts.Beginnings.{again}
use Rattle.call_laws.specs.attempts.EngineCalls.{AreAttempts, begins_behind}
use Rattle.cluster_laws.specs.cluster_cuts.Goings.{AreUpdatesFrom}
use Rattle.cluster_laws.specs.cluster_runs.Attempts.{Attempt, Beginning, IsAttempt, Shared}
use Rattle.cluster_laws.specs.cluster_model.ByTicket.{restarts}
use Rattle.call_laws.proofs.attempts.Storing.{attempts_end, begins_push, failed_push}
use Rattle.call_laws.specs.cluster_attempts.CallsSoFar.{IsCallSoFar, attempt_of}
use Rattle.call_laws.specs.cluster_attempts.Failures.{FailAsOrdered, KeepToJob, StopsAtCount}
use Rattle.call_laws.proofs.cluster_attempts.Making.{attempt_is, done_is, held_is, stops_same, struck_same}

-- ---- what machines made in earlier attempts

module _ (st : Setting) (c : Cluster) (b : ℕ) where
  abbrev Keeps : Cluster → Type 0
  Keeps new = (new.machine b).done ≡ (c.machine b).done

  one_machine : (a : ℕ) (new : Machine) → new.done ≡ (c.machine a).done → Keeps (with_machine c a new)
  one_machine a new same = set_at-kept (λ (m : Machine). m.done) c.machine a new same b

  received : (q : ℕ) (message : Message) (m : Machine) → (prompt st q (receives st q message m)).done ≡ m.done
  received q (Ask s v rest) m = refl
  received q (Ready s) m = refl
  received q (Done s news) m = refl

  taken : (a : ℕ) (call : Call) (m : Machine) → (prompt st a (takes_call st a call m)).done ≡ m.done
  taken a (Begin k) m = refl
  taken a (Committed k) m = refl
  taken a (Wave k) m = refl
  taken a (Step colour) m = refl

  reported : (a : ℕ) (report : Report) (behind : List Report) → Keeps (delivers_report c a (report ∷ behind))
  reported a (Saved k section entries) behind = refl
  reported a (Count k counts) behind = refl
  reported a (Want k) behind = refl

  pub done_kept : (event : Event) → MayDo st c event → IsNoRecovery event → Keeps (after_event st c event)
  done_kept (Admit a v) may other = one_machine a (prompt st a (admits st a v (c.machine a))) refl
  done_kept (Grant a x) may other = one_machine a (prompt st a (grants st a x (c.machine a))) refl
  done_kept (Send p q) may other = subst (λ (ms : List Message). Keeps (sends_message c p q ms)) (sym may.2.first) (one_machine p (hands q may.2.behind (c.machine p)) refl)
  done_kept (SendCall a) may other = subst (λ (calls : List Call). Keeps (sends_call c a calls)) (sym may.1.first) refl
  done_kept (SendReport a) may other = subst (λ (reports : List Report). Keeps (sends_report c a reports)) (sym may.1.first) (one_machine a (hands_report may.1.behind (c.machine a)) refl)
  done_kept (Deliver p q) may other =
      subst (λ (ms : List Message). Keeps (delivers_message st c p q ms)) (sym may.2.first) (one_machine q (prompt st q (receives st q may.2.message (c.machine q))) (received q may.2.message (c.machine q)))
  done_kept (DeliverCall a) may other =
      subst (λ (calls : List Call). Keeps (delivers_call st c a calls)) (sym may.1.first) (one_machine a (prompt st a (takes_call st a may.1.message (c.machine a))) (taken a may.1.message (c.machine a)))
  done_kept (DeliverReport a) may other = subst (λ (reports : List Report). Keeps (delivers_report c a reports)) (sym may.1.first) (reported a may.1.message may.1.behind)
  done_kept (Update s) may other =
      subst (λ (flight : Option ℕ). Keeps (makes st c s flight)) (sym may.1.flight)
      (one_machine s.home.0 (prompt st s.home.0 (makes_update st s.home.0 s may.1.vertex (Go s.home (record { 0 = may.1.vertex }) c.next) (c.machine s.home.0))) refl)
  done_kept (Mark s) may other =
      subst (λ (flight : Option ℕ). Keeps (saves st c s flight)) (sym may.1.flight) (one_machine s.home.0 (prompt st s.home.0 (makes_mark st s.home.0 s may.1.vertex (c.machine s.home.0))) refl)
  done_kept (Section a) may other = one_machine a (prompt st a (sections (c.machine a))) refl
  done_kept Record may other = refl
  done_kept PutBegin may other = refl
  done_kept PutStep may other = refl
  done_kept PutWave may other = refl
  done_kept (Fail a) may other = one_machine a (fails (c.machine a)) refl
  done_kept (Recover base) may other = absurd (other base refl)
  done_kept Stop may other = refl

no_more : (n : ℕ) → n ≡ n + 0
no_more n = omega arith

one_more : (n k l m : ℕ) → n ≡ suc k → k ≡ l + m → n ≡ l + (m + 1)
one_more n k l m one two = omega arith

-- ---- each event

module _ (failures : List FailureAt) (start : Beginning) where
  module _ (st : Setting) (is : IsSetting st) (c : Cluster) (whole : IsWhole st c) (logged : List Logged) (account : IsAccounted st c whole logged) (based : IsBased st c logged)
      (failed : List Attempt) (so : IsCallSoFar (shared_of st failures) start c logged failed) where
    abbrev here : Beginning
    here = begins_behind start failed

    pub quiet_so : (event : Event) → MayDo st c event → IsNoRecovery event → IsNoUpdate event → IsCallSoFar (shared_of st failures) start (after_event st c event) (logged ++ []) failed
    quiet_so event may other none =
        subst (λ (ls : List Logged). IsCallSoFar (shared_of st failures) start (after_event st c event) ls failed) (sym (append-nil logged))
        (record {
          have = so.have;
          front = ap (λ (b : BaseView). b.order) (base_kept st c event may other) ∙ so.front;
          tickets = so.tickets;
          next = draws_none st c event may none ∙ so.next;
          done = λ a. done_kept st c a event may other ∙ so.done a;
        })

    pub update_so : (s : ScopeId) (may : MayDo st c (Update s)) → IsNoRecovery (Update s) →
        IsCallSoFar (shared_of st failures) start (after_event st c (Update s)) (logged ++ update_logged st c s may.1.vertex ∷ []) failed
    update_so s may other =
        let made : List Entry = all_entries logged in
        let entry : Entry = Go s.home (record { 0 = may.1.vertex }) c.next in
        let drawn : (after_event st c (Update s)).next ≡ suc c.next = subst (λ (flight : Option ℕ). (makes st c s flight).next ≡ suc c.next) (sym may.1.flight) refl in
        let more : all_entries (logged ++ update_logged st c s may.1.vertex ∷ []) ≡ made ++ entry ∷ [] = all-more logged (update_logged st c s may.1.vertex ∷ []) in
        record {
          have = so.have;
          front = ap (λ (b : BaseView). b.order) (base_kept st c (Update s) may other) ∙ so.front;
          tickets = subst (AreUpdatesFrom here.next) (sym more) (updates_from-append here.next made (entry ∷ []) so.tickets (so.next, tt));
          next = one_more (after_event st c (Update s)).next c.next here.next (length made) drawn so.next ∙ ap (λ (n : ℕ). here.next + n) (sym (ap length more ∙ length-append made (entry ∷ [])));
          done = λ a. done_kept st c a (Update s) may other ∙ so.done a;
        }

    abbrev now_made : Attempt
    now_made = attempt_of failures here c logged

    pub made_now : AllByRecursion (StopsAtCount c) failures → IsAttempt (shared_of st failures) here now_made
    made_now stops = attempt_is st is c whole logged account failures here based so.front so.tickets (stops_same st is c whole logged account failures here so.done stops)

    pub recover_so : (base : BaseView) → GoesBackTo st c base → FailAsOrdered st failures c → IsCallSoFar (shared_of st failures) start (recovers st base c) [] (failed ++ now_made ∷ [])
    recover_so base back ordered =
        let struck : failures_in st c ≡ now_made.struck = ordered.struck ∙ struck_same st is c whole logged account failures here so.done in
        let push : begins_behind start (failed ++ now_made ∷ []) ≡ again here now_made = begins_push start failed now_made in
        record {
          have = failed_push (shared_of st failures) start failed now_made so.have (made_now ordered.stops) (subst (λ (n : ℕ). 1 ≤ n) struck back.failed);
          front = base_order st is c whole logged account based base back
              ∙ append_assoc c.base.order (entries_to c.coordinator.acknowledged logged) (restarts (failures_in st c) c.next)
              ∙ ap₂ (λ (xs ys : List Entry). xs ++ ys) so.front
              (ap₂ (λ (xs ys : List Entry). xs ++ ys) (sym (held_is st is c whole logged account failures here so.tickets)) (ap₂ restarts struck so.next))
              ∙ ap (λ (b : Beginning). b.front) (sym push);
          tickets = tt;
          next = so.next ∙ no_more (here.next + length (all_entries logged)) ∙ ap (λ (b : Beginning). b.next + 0) (sym push);
          done = λ a. done_is st is c whole logged account failures here so.done a ∙ ap (λ (b : Beginning). b.done a) (sym push);
        }

    -- what an event leaves
    abbrev Leaves : Event → Type 0
    Leaves event = IsSetting (setting_after st event) × (next : IsWhole (setting_after st event) (after_event st c event)) × (now : List Logged)
        × IsAccounted (setting_after st event) (after_event st c event) next now × IsBased (setting_after st event) (after_event st c event) now
        × (more : List Attempt) × IsCallSoFar (shared_of (setting_after st event) failures) start (after_event st c event) now more

    abbrev Stays : Event → Type 0
    Stays event = IsSetting st × (next : IsWhole st (after_event st c event)) × (now : List Logged)
        × IsAccounted st (after_event st c event) next now × IsBased st (after_event st c event) now
        × (more : List Attempt) × IsCallSoFar (shared_of st failures) start (after_event st c event) now more

    quiet : (event : Event) → MayDo st c event → IsNoRecovery event → IsNoUpdate event → Stays event
    quiet event may other none =
        let kept = quiet_kept st is c whole logged account event may other none in
        (is, kept.0, logged ++ [], kept.1, still_based st c logged based event may other none, failed, quiet_so event may other none)

    pub leaves : (event : Event) → MayDo st c event → ((base : BaseView) → event ≡ Recover base → FailAsOrdered st failures c) → Leaves event
    leaves (Admit a v) may ordered = quiet (Admit a v) may (λ base same. cc) (λ s same. cc)
    leaves (Grant a x) may ordered = quiet (Grant a x) may (λ base same. cc) (λ s same. cc)
    leaves (Send p q) may ordered = quiet (Send p q) may (λ base same. cc) (λ s same. cc)
    leaves (SendCall a) may ordered = quiet (SendCall a) may (λ base same. cc) (λ s same. cc)
    leaves (SendReport a) may ordered = quiet (SendReport a) may (λ base same. cc) (λ s same. cc)
    leaves (Deliver p q) may ordered = quiet (Deliver p q) may (λ base same. cc) (λ s same. cc)
    leaves (DeliverCall a) may ordered = quiet (DeliverCall a) may (λ base same. cc) (λ s same. cc)
    leaves (DeliverReport a) may ordered = quiet (DeliverReport a) may (λ base same. cc) (λ s same. cc)
    leaves (Update s) may ordered =
        let kept = update_kept st is c whole logged account s may (λ base same. cc) in
        (is, kept.0, logged ++ update_logged st c s may.1.vertex ∷ [], kept.1, update_based st c logged based s may (λ base same. cc), failed, update_so s may (λ base same. cc))
    leaves (Mark s) may ordered = quiet (Mark s) may (λ base same. cc) (λ s same. cc)
    leaves (Section a) may ordered = quiet (Section a) may (λ base same. cc) (λ s same. cc)
    leaves Record may ordered = quiet Record may (λ base same. cc) (λ s same. cc)
    leaves PutBegin may ordered = quiet PutBegin may (λ base same. cc) (λ s same. cc)
    leaves PutStep may ordered = quiet PutStep may (λ base same. cc) (λ s same. cc)
    leaves PutWave may ordered = quiet PutWave may (λ base same. cc) (λ s same. cc)
    leaves (Fail a) may ordered = quiet (Fail a) may (λ base same. cc) (λ s same. cc)
    leaves (Recover base) may ordered =
        let first = begun st is (are_coloured st st.engine c whole.apart) base c (next_base st is c whole logged account based base may) in
        (record { graph = is.graph; owner = is.owner }, first.0, [], first.1, first.2, failed ++ now_made ∷ [], recover_so base may (ordered base refl))
    leaves Stop may ordered = quiet Stop may (λ base same. cc) (λ s same. cc)

  -- ---- every list of events

  pub shared_after : (st : Setting) (event : Event) → shared_of (setting_after st event) failures ≡ shared_of st failures
  shared_after st (Admit a v) = refl
  shared_after st (Grant a x) = refl
  shared_after st (Send p q) = refl
  shared_after st (SendCall a) = refl
  shared_after st (SendReport a) = refl
  shared_after st (Deliver p q) = refl
  shared_after st (DeliverCall a) = refl
  shared_after st (DeliverReport a) = refl
  shared_after st (Update s) = refl
  shared_after st (Mark s) = refl
  shared_after st (Section a) = refl
  shared_after st Record = refl
  shared_after st PutBegin = refl
  shared_after st PutStep = refl
  shared_after st PutWave = refl
  shared_after st (Fail a) = refl
  shared_after st (Recover base) = refl
  shared_after st Stop = refl

  -- the attempts that failed so far, and the last one
  abbrev Made : Setting → Shared → Cluster → Type 0
  Made st shared c = (next : IsWhole st c) × (now : List Logged) × IsAccounted st c next now × IsBased st c now
      × (more : List Attempt) × IsCallSoFar shared start c now more × AreAttempts shared start more (attempt_of failures (begins_behind start more) c now)

  pub traces_make : (events : List Event) (st : Setting) → IsSetting st → (old new : Cluster) (whole : IsWhole st old) (logged : List Logged) (failed : List Attempt) → IsTrace st old events new →
      IsAccounted st old whole logged → IsBased st old logged → IsCallSoFar (shared_of st failures) start old logged failed → KeepToJob st failures old events →
      Made (setting_behind st events) (shared_of st failures) new
  traces_make [] st is old new whole logged failed trace account based so keep =
      subst (Made st (shared_of st failures)) (sym trace)
      (whole, logged, account, based, failed, so, attempts_end (shared_of st failures) start failed (attempt_of failures (begins_behind start failed) old logged) so.have (made_now st is old whole logged account based failed so keep))
  traces_make (event ∷ events) st is old new whole logged failed trace account based so keep =
      let one = leaves st is old whole logged account based failed so event trace.0.1 keep.0 in
      subst (λ (shared : Shared). Made (setting_behind (setting_after st event) events) shared new) (shared_after st event)
      (traces_make events (setting_after st event) one.0 (after_event st old event) new one.1 one.2 one.5 trace.1 one.3 one.4 one.6 keep.1)

pub begins_so : (st : Setting) (failures : List FailureAt) (start : Beginning) (base : BaseView) (c : Cluster) → base.order ≡ start.front → c.next ≡ start.next → ((a : ℕ) → completed (c.machine a) ≡ start.done a) →
    IsCallSoFar (shared_of st failures) start (recovers st base c) [] []
begins_so st failures start base c front next done = record { have = tt; front = front; tickets = tt; next = next ∙ no_more start.next; done = done }
