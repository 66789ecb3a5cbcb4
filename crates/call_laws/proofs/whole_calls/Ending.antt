-- A cluster in the course of a call, with its waves, its snapshots and its tickets.
use Rattle.std.proofs.Common.{◌≡◌, ◌⊎◌, ℕ, suc, pred, ◌+◌, ◌<◌, ◌≤◌, Bool, true, false, if◌then◌else◌, Option, List, [], ◌∷◌, ◌++◌, length, inl, inr, refl, replicate, sym, ◌∙◌, ap, ap₂, subst, subst₂, ⊎_elim, le_refl, append-nil, append_assoc, arith}
use Rattle.std.specs.List.{AllByRecursion}
use Rattle.std.proofs.lemmas.Bool.{both_ways, cond-false, cond-true, false_from_ne_true}
use Rattle.std.proofs.lemmas.List.{length-append, length-map}
use Rattle.gl_base.specs.declared.entries.Entry.{Entry}
use Rattle.gl_base.specs.declared.jobs.FailureAt.{FailureAt}
use Rattle.gl_base.specs.declared.scopes.ScopeId.{ScopeId}
use Rattle.call_laws.specs.attempts.Beginnings.{again, unheld_updates}
use Rattle.call_laws.specs.attempts.EngineCalls.{HaveFailed, begins_behind, lost_in}
use Rattle.call_laws.specs.attempts.Stores.{ResumesFrom, attempted_snapshots, last_order, snapshot_orders}
use Rattle.call_laws.proofs.attempts.Prefixes.{last_order_append}
use Rattle.call_laws.proofs.attempts.Storing.{begins_push, goes_back}
use Rattle.call_laws.specs.cluster_attempts.CallsSoFar.{count_to, counts_of}
use Rattle.call_laws.proofs.cluster_attempts.Joining.{made_now}
use Rattle.cluster_laws.specs.cluster_core.Messages.{Message}
use Rattle.cluster_laws.specs.cluster_core.Settings.{Setting}
use Rattle.whole_laws.specs.cluster_ending.Watched.{HasNoTaskLeft, IsWatched, Watch}
use Rattle.whole_laws.specs.cluster_ending.Ends.{IsNoBegin}
use Rattle.whole_laws.proofs.cluster_ending.Traces.{event_kept, numbers_after, setting_same, watch_kept}
use Rattle.whole_laws.proofs.cluster_ending.Finding.{no_task_left}
use Rattle.whole_laws.proofs.cluster_ending.Leaving.{done_moved}
use Rattle.cluster_laws.specs.cluster_model.Calls.{Call, Count, Report, Saved, Want}
use Rattle.cluster_laws.specs.cluster_model.Clusters.{BaseView, Cluster}
use Rattle.cluster_laws.specs.cluster_model.Events.{Event, Admit, DeliverCall, DeliverReport, Deliver, Fail, GoesBackTo, Grant, IsTrace, Mark, MayDo, PutBegin, PutStep, PutWave, Record, Recover, Section, Send, SendCall, SendReport, Stop, Update, after_event, delivers_call, delivers_message, delivers_report, failures_in, makes, recovers, saves, sends_call, sends_message, sends_report, setting_after}
use Rattle.cluster_laws.specs.cluster_model.Leading.{HasSeenTheEnd, HoldsAll, Snapshot}
use Rattle.cluster_laws.specs.cluster_model.Working.{half_window}
use Rattle.cluster_laws.specs.cluster_runs.Attempts.{Attempt, Beginning, Shared}
use Rattle.cluster_laws.specs.cluster_runs.Recorded.{shared_of}
use Rattle.whole_laws.specs.cluster_whole.Logged.{Logged, all_entries, entries_to}
use Rattle.whole_laws.specs.cluster_whole.Views.{world_of}
use Rattle.whole_laws.specs.cluster_whole.Whole.{IsNoRecovery, setting_behind}
use Rattle.whole_laws.proofs.cluster_whole.Flows.{total_from-none, total_from-same}
use Rattle.whole_laws.proofs.cluster_whole.Joining.{event_leads}
use Rattle.whole_laws.proofs.cluster_whole.Wholeness.{is_exclusive}
use Rattle.whole_laws.specs.cluster_records.Few.{snapshot_at, unasked_at, unasked_in}
use Rattle.whole_laws.specs.cluster_records.Recorded.{GoOnByNumber, snapshot_due}
use Rattle.whole_laws.proofs.cluster_records.Based.{base_kept}
use Rattle.whole_laws.proofs.cluster_records.Entering.{IsNoUpdate, draws_none, own_logged, update_logged}
use Rattle.whole_laws.proofs.cluster_records.Numbering.{all_own}
use Rattle.whole_laws.proofs.cluster_records.Outside.{many_outside, outside_more}
use Rattle.whole_laws.proofs.cluster_records.Recording.{IsNoRecord, adds_none}
use Rattle.graph_core.proofs.HalvesLaws.{each-append}
use Rattle.cluster_laws.specs.merged_logs.Merges.{IsByMachineBelow}
use Rattle.call_laws.specs.whole_calls.Following.{FollowJob, FollowsJob, has_reached}
use Rattle.call_laws.specs.whole_calls.Lost.{AreLostIn, IsTakenBy}
use Rattle.call_laws.specs.whole_calls.Saved.{AreSnapshotsOf, front_at, fronts_in, recorded_at, recorded_in}
use Rattle.call_laws.proofs.whole_calls.Acknowledged.{attempted_push, good_snapshots, numbered_long, snapshots_append}
use Rattle.call_laws.proofs.whole_calls.EventKinds.{by_kind}
use Rattle.call_laws.proofs.whole_calls.Fronting.{HaveRestartsOf, attempt_restarts, replicate_push, restarts_append}
use Rattle.call_laws.proofs.whole_calls.Going.{IsInCall, now_made, quiet_in, reached_kept, recover_in, update_in}
use Rattle.call_laws.proofs.whole_calls.Holding.{holds_all, holds_if}
use Rattle.call_laws.proofs.whole_calls.Losing.{lost_push, own_by_machines, taken_once, unheld_taken}
use Rattle.call_laws.proofs.whole_calls.Owning.{SavesOwn, begins_own, own_kept}
use Rattle.call_laws.proofs.whole_calls.Refusing.{again_longer}
use Rattle.call_laws.proofs.whole_calls.Waved.{IsLate, end_unreached, quiet_late, recovered_late, update_late}

-- ---- what an event has to do with snapshots

-- it begins none and acknowledges none
pub record IsPlain (event : Event) : Type 0 where
  pub begins : IsNoBegin event
  pub records : IsNoRecord event
  pub asks : (c : Cluster) → unasked_at c event ≡ 0
  pub adds : (c : Cluster) → recorded_at c event ≡ []
  pub counts : snapshot_at event ≡ 0
  pub fronts : (c : Cluster) → front_at c event ≡ []

pub which : (event : Event) → (event ≡ PutBegin) ⊎ ((event ≡ Record) ⊎ IsPlain event)
which (Admit a v) = inr (inr (record { begins = λ same. cc; records = λ same. cc; asks = λ c. refl; adds = λ c. refl; counts = refl; fronts = λ c. refl }))
which (Grant a x) = inr (inr (record { begins = λ same. cc; records = λ same. cc; asks = λ c. refl; adds = λ c. refl; counts = refl; fronts = λ c. refl }))
which (Send p q) = inr (inr (record { begins = λ same. cc; records = λ same. cc; asks = λ c. refl; adds = λ c. refl; counts = refl; fronts = λ c. refl }))
which (SendCall a) = inr (inr (record { begins = λ same. cc; records = λ same. cc; asks = λ c. refl; adds = λ c. refl; counts = refl; fronts = λ c. refl }))
which (SendReport a) = inr (inr (record { begins = λ same. cc; records = λ same. cc; asks = λ c. refl; adds = λ c. refl; counts = refl; fronts = λ c. refl }))
which (Deliver p q) = inr (inr (record { begins = λ same. cc; records = λ same. cc; asks = λ c. refl; adds = λ c. refl; counts = refl; fronts = λ c. refl }))
which (DeliverCall a) = inr (inr (record { begins = λ same. cc; records = λ same. cc; asks = λ c. refl; adds = λ c. refl; counts = refl; fronts = λ c. refl }))
which (DeliverReport a) = inr (inr (record { begins = λ same. cc; records = λ same. cc; asks = λ c. refl; adds = λ c. refl; counts = refl; fronts = λ c. refl }))
which (Update s) = inr (inr (record { begins = λ same. cc; records = λ same. cc; asks = λ c. refl; adds = λ c. refl; counts = refl; fronts = λ c. refl }))
which (Mark s) = inr (inr (record { begins = λ same. cc; records = λ same. cc; asks = λ c. refl; adds = λ c. refl; counts = refl; fronts = λ c. refl }))
which (Section a) = inr (inr (record { begins = λ same. cc; records = λ same. cc; asks = λ c. refl; adds = λ c. refl; counts = refl; fronts = λ c. refl }))
which Record = inr (inl refl)
which PutBegin = inl refl
which PutStep = inr (inr (record { begins = λ same. cc; records = λ same. cc; asks = λ c. refl; adds = λ c. refl; counts = refl; fronts = λ c. refl }))
which PutWave = inr (inr (record { begins = λ same. cc; records = λ same. cc; asks = λ c. refl; adds = λ c. refl; counts = refl; fronts = λ c. refl }))
which (Fail a) = inr (inr (record { begins = λ same. cc; records = λ same. cc; asks = λ c. refl; adds = λ c. refl; counts = refl; fronts = λ c. refl }))
which (Recover base) = inr (inr (record { begins = λ same. cc; records = λ same. cc; asks = λ c. refl; adds = λ c. refl; counts = refl; fronts = λ c. refl }))
which Stop = inr (inr (record { begins = λ same. cc; records = λ same. cc; asks = λ c. refl; adds = λ c. refl; counts = refl; fronts = λ c. refl }))

-- ---- tickets

left_reported : (c : Cluster) (a : ℕ) (report : Report) (behind : List Report) → (delivers_report c a (report ∷ behind)).left ≡ c.left
left_reported c a (Saved k section entries) behind = refl
left_reported c a (Count k counts) behind = refl
left_reported c a (Want k) behind = refl

left_kept : (st : Setting) (c : Cluster) (event : Event) → MayDo st c event → IsNoUpdate event → (after_event st c event).left ≡ c.left
left_kept st c (Admit a v) may none = refl
left_kept st c (Grant a x) may none = refl
left_kept st c (Send p q) may none = subst (λ (ms : List Message). (sends_message c p q ms).left ≡ c.left) (sym may.2.first) refl
left_kept st c (SendCall a) may none = subst (λ (calls : List Call). (sends_call c a calls).left ≡ c.left) (sym may.1.first) refl
left_kept st c (SendReport a) may none = subst (λ (reports : List Report). (sends_report c a reports).left ≡ c.left) (sym may.1.first) refl
left_kept st c (Deliver p q) may none = subst (λ (ms : List Message). (delivers_message st c p q ms).left ≡ c.left) (sym may.2.first) refl
left_kept st c (DeliverCall a) may none = subst (λ (calls : List Call). (delivers_call st c a calls).left ≡ c.left) (sym may.1.first) refl
left_kept st c (DeliverReport a) may none = subst (λ (reports : List Report). (delivers_report c a reports).left ≡ c.left) (sym may.1.first) (left_reported c a may.1.message may.1.behind)
left_kept st c (Update s) may none = absurd (none s refl)
left_kept st c (Mark s) may none = subst (λ (flight : Option ℕ). (saves st c s flight).left ≡ c.left) (sym may.1.flight) refl
left_kept st c (Section a) may none = refl
left_kept st c Record may none = refl
left_kept st c PutBegin may none = refl
left_kept st c PutStep may none = refl
left_kept st c PutWave may none = refl
left_kept st c (Fail a) may none = refl
left_kept st c (Recover base) may none = refl
left_kept st c Stop may none = refl

one_ticket : (next left total : ℕ) → next + left ≡ total → 0 < left → suc next + pred left ≡ total
one_ticket next left total is some = omega arith

-- ---- all of it

-- No task is left, each update is of a snapshot that was begun, one at least was, and no machine has reached the count of a failure.
pub record HasAskedAll (failures : List FailureAt) (st : Setting) (c : Cluster) (logged : List Logged) : Type 0 where
  pub left : HasNoTaskLeft st (world_of c)
  pub held : AllByRecursion (λ l. l.number ≤ c.coordinator.begun) logged
  pub begun : st.base < c.coordinator.begun
  pub none : (a : ℕ) → a < st.machines → has_reached failures c a ≡ false

-- at most one snapshot was begun that no machine asked for, and where one was, that is so
abbrev pub HasAskedOnce : List FailureAt → Setting → Cluster → List Logged → ℕ → Type 0
HasAskedOnce failures st c logged unasked = (unasked ≡ 0) ⊎ ((unasked ≡ 1) × HasAskedAll failures st c logged)

-- Half of a machine's window is outside the last snapshot; or no task is left, and the last snapshot lacks something or there is none.
abbrev pub HasReason : Setting → Cluster → List Logged → Type 0
HasReason st c logged =
    ((m : ℕ) × (m < st.machines) × (half_window st ≤ many_outside m c.coordinator.acknowledged logged))
    ⊎ (HasNoTaskLeft st (world_of c) × ((c.coordinator.snapshots ≡ []) ⊎ (entries_to c.coordinator.acknowledged logged ≡ all_entries logged → ⊥)))

-- so many snapshots were acknowledged in earlier attempts and in this one, and these orders are what their attempts began with
abbrev pub FrontsSoFar : Beginning → Cluster → List Attempt → List (List Entry) → Type 0
FrontsSoFar start c failed fronts =
    (earlier : List (List Entry)) × (fronts ≡ earlier ++ replicate (length c.coordinator.snapshots) c.base.order) × HaveRestartsOf earlier (attempted_snapshots start failed)

-- These snapshots were acknowledged, the last ones in this attempt, so many were begun that no machine asked for, and so many tickets
-- were there.
pub record IsEnding (failures : List FailureAt) (start : Beginning) (kept : List Entry) (number total : ℕ) (st : Setting) (c : Cluster) (logged : List Logged) (failed : List Attempt) (taken : List Snapshot) (unasked : ℕ) : Type 0 where
  pub at : IsInCall failures start st c logged failed
  pub watch : Watch
  pub watched : IsWatched st c watch
  pub late : IsLate failures st c
  pub once : HasAskedOnce failures st c logged unasked
  pub earlier : List Snapshot
  pub taken_are : taken ≡ earlier ++ c.coordinator.snapshots
  pub numbered : st.base ≡ number + length earlier
  pub orders : AreSnapshotsOf st number kept earlier (attempted_snapshots start failed)
  pub resumes : ResumesFrom (last_order kept (attempted_snapshots start failed)) (begins_behind start failed).front
  -- who failed begins behind the last order, and a snapshot is under way for a reason
  pub behind : (failed ≡ []) ⊎ ((begins_behind start failed).front ≡ last_order kept (attempted_snapshots start failed) → ⊥)
  pub reason : c.coordinator.acknowledged < c.coordinator.begun → HasReason st c logged
  pub own : SavesOwn st c
  pub made_below : AllByRecursion (λ (a : Attempt). AllByRecursion (IsByMachineBelow st.machines) a.made) failed
  pub tickets : c.next + c.left ≡ total

stays_zero : (n k : ℕ) → n ≡ 0 → k ≡ 0 → n + k ≡ 0
stays_zero n k one other = omega arith

stays_one : (n k : ℕ) → n ≡ 1 → k ≡ 0 → n + k ≡ 1
stays_one n k one other = omega arith

first_one : (n k : ℕ) → n ≡ 0 → k ≡ 1 → n + k ≡ 1
first_one n k one other = omega arith

le_up : (a b c : ℕ) → a ≤ b → b ≤ c → a ≤ c
le_up a b c one other = omega arith

less_up : (a b c : ℕ) → a < b → b ≤ c → a < c
less_up a b c one other = omega arith

base_low : (base ack begun : ℕ) → base ≤ ack → ack ≡ begun → base < suc begun
base_low base ack begun one same = omega arith

not_base : (base ack begun : ℕ) → ack ≡ base → ack ≡ begun → base < begun → ⊥
not_base base ack begun one same less = omega arith

suc_low : (n : ℕ) → n ≤ suc n
suc_low n = omega arith

le_same : (n k : ℕ) → k ≡ n → n ≤ k
le_same n k is = omega arith

not_none : (n : ℕ) → n ≡ 0 → 0 < n → ⊥
not_none n none some = omega arith

grows : (number a b long : ℕ) → a ≡ number + long → (other : ℕ) → b ≡ a + other → b ≡ number + (long + other)
grows number a b long one other two = omega arith

false_true : false ≡ true → ⊥
false_true is = cc

not_less : (n : ℕ) → n < n → ⊥
not_less n is = omega arith

-- a failure was reached in the last of those that failed
have_last : (shared : Shared) (b : Beginning) (failed : List Attempt) (a : Attempt) → HaveFailed shared b (failed ++ a ∷ []) → 1 ≤ a.struck
have_last shared b [] a have = have.1
have_last shared b (one ∷ failed) a have = have_last shared (again b one) failed a have.2

numbers_up : (low high : ℕ) (ls : List Logged) → low ≤ high → AllByRecursion (λ l. l.number ≤ low) ls → AllByRecursion (λ l. l.number ≤ high) ls
numbers_up low high [] up all = tt
numbers_up low high (l ∷ ls) up all = (le_up l.number low high all.0 up, numbers_up low high ls up all.1)

module _ (failures : List FailureAt) (start : Beginning) (kept : List Entry) (number total : ℕ) (st : Setting) (c : Cluster) (logged : List Logged) (failed : List Attempt) (taken : List Snapshot) (unasked : ℕ)
    (e : IsEnding failures start kept number total st c logged failed taken unasked) where
  abbrev in_call : IsInCall failures start st c logged failed
  in_call = e.at

  -- ---- snapshots that no machine asked for

  abbrev OnceBehind : Event → Type 0
  OnceBehind event = HasAskedOnce failures st (after_event st c event) (logged ++ []) (unasked + unasked_at c event)

  -- that nothing is left, and all is asked for, stays so
  still_asked : (event : Event) → MayDo st c event → IsNoRecovery event → IsNoUpdate event → c.coordinator.begun ≤ (after_event st c event).coordinator.begun →
      HasAskedAll failures st c logged → HasAskedAll failures st (after_event st c event) (logged ++ [])
  still_asked event may other none up asked =
      let later : Cluster = after_event st c event in
      record {
        left = (done_moved st in_call.is (world_of c) (world_of later) in_call.whole.consistent.copies (is_exclusive st in_call.is c in_call.whole) (event_leads st c event may other) asked.left).left;
        held = subst (λ (ls : List Logged). AllByRecursion (λ l. l.number ≤ later.coordinator.begun) ls) (sym (append-nil logged)) (numbers_up c.coordinator.begun later.coordinator.begun logged up asked.held);
        begun = less_up st.base c.coordinator.begun later.coordinator.begun asked.begun up;
        none = λ a low. reached_kept failures start st c logged failed in_call event may other none a ∙ asked.none a low;
      }

  once_stays : (event : Event) → MayDo st c event → IsNoRecovery event → IsNoUpdate event → c.coordinator.begun ≤ (after_event st c event).coordinator.begun → unasked_at c event ≡ 0 → OnceBehind event
  once_stays event may other none up asks =
      ⊎_elim
      (λ (zero_so : unasked ≡ 0). inl (stays_zero unasked (unasked_at c event) zero_so asks))
      (λ (one_so : (unasked ≡ 1) × HasAskedAll failures st c logged). inr (stays_one unasked (unasked_at c event) one_so.0 asks, still_asked event may other none up one_so.1))
      e.once

  begin_other : IsNoRecovery PutBegin
  begin_other = λ base same. cc

  begin_none : IsNoUpdate PutBegin
  begin_none = λ s same. cc

  -- where the waves have shown the end, all is asked for as a snapshot begins
  asked_now : MayDo st c PutBegin → HasSeenTheEnd c.coordinator → HasAskedAll failures st (after_event st c PutBegin) (logged ++ [])
  asked_now may end =
      let later : Cluster = after_event st c PutBegin in
      record {
        left = (done_moved st in_call.is (world_of c) (world_of later) in_call.whole.consistent.copies (is_exclusive st in_call.is c in_call.whole) (event_leads st c PutBegin may begin_other)
            (no_task_left st c e.watch e.watched end)).left;
        held = subst (λ (ls : List Logged). AllByRecursion (λ l. l.number ≤ later.coordinator.begun) ls) (sym (append-nil logged)) in_call.account.order.low;
        begun = base_low st.base c.coordinator.acknowledged c.coordinator.begun in_call.whole.consistent.marks.base may.none;
        none = λ a low.
            reached_kept failures start st c logged failed in_call PutBegin may begin_other begin_none a
            ∙ end_unreached failures start st c logged failed in_call e.watch e.watched e.late end a low;
      }

  -- a second one isn't due
  no_second : MayDo st c PutBegin → (end : HasSeenTheEnd c.coordinator) → (HoldsAll st c.coordinator → ⊥) ⊎ (c.coordinator.snapshots ≡ []) → HasAskedAll failures st c logged → ⊥
  no_second may end lacks asked =
      ⊎_elim
      (λ (not : HoldsAll st c.coordinator → ⊥).
      not (holds_all st in_call.is c in_call.whole logged in_call.account e.watch e.watched end
      (subst (λ (n : ℕ). AllByRecursion (λ l. l.number ≤ n) logged) (sym may.none) asked.held)))
      (λ (nothing : c.coordinator.snapshots ≡ []).
      not_base st.base c.coordinator.acknowledged c.coordinator.begun
      (subst (λ (ss : List Snapshot). GoOnByNumber st.base ss c.coordinator.acknowledged) nothing in_call.account.records.numbered) may.none asked.begun)
      lacks

  begin_by : (wanted : Bool) → c.coordinator.wanted ≡ wanted → MayDo st c PutBegin → OnceBehind PutBegin
  begin_by true is may = once_stays PutBegin may begin_other begin_none (suc_low c.coordinator.begun) (cond-true c.coordinator.wanted 0 1 is)
  begin_by false is may =
      let seen = ⊎_elim
      (λ (wanted : c.coordinator.wanted ≡ true). absurd (false_true (sym is ∙ wanted)))
      (λ (x : HasSeenTheEnd c.coordinator × ((HoldsAll st c.coordinator → ⊥) ⊎ (c.coordinator.snapshots ≡ []))). x)
      may.wanted in
      ⊎_elim
      (λ (zero_so : unasked ≡ 0). inr (first_one unasked (unasked_at c PutBegin) zero_so (cond-false c.coordinator.wanted 0 1 is), asked_now may seen.0))
      (λ (one_so : (unasked ≡ 1) × HasAskedAll failures st c logged). absurd (no_second may seen.0 seen.1 one_so.1))
      e.once

  once_on : (event : Event) → MayDo st c event → IsNoRecovery event → IsNoUpdate event → OnceBehind event
  once_on event may other none =
      ⊎_elim
      (λ (begins : event ≡ PutBegin). subst (λ (x : Event). MayDo st c x → OnceBehind x) (sym begins) (begin_by c.coordinator.wanted refl) may)
      (λ (rest : (event ≡ Record) ⊎ IsPlain event). ⊎_elim
      (λ (records : event ≡ Record).
      subst (λ (x : Event). MayDo st c x → OnceBehind x) (sym records)
      (λ may_record. once_stays Record may_record (λ base same. cc) (λ s same. cc) (le_refl c.coordinator.begun) refl) may)
      (λ (plain : IsPlain event).
      once_stays event may other none (le_same c.coordinator.begun (after_event st c event).coordinator.begun (numbers_after st c event other plain.begins).1) (plain.asks c))
      rest)
      (which event)

  -- ---- snapshots that are acknowledged

  abbrev TakenBehind : Event → Type 0
  TakenBehind event = taken ++ recorded_at c event ≡ e.earlier ++ (after_event st c event).coordinator.snapshots

  none_taken : (event : Event) → MayDo st c event → IsNoRecovery event → IsNoRecord event → recorded_at c event ≡ [] → TakenBehind event
  none_taken event may other none adds =
      ap (λ (ss : List Snapshot). taken ++ ss) adds ∙ append-nil taken ∙ e.taken_are ∙ ap (λ (ss : List Snapshot). e.earlier ++ ss) (sym (adds_none st c event may other none).0)

  taken_on : (event : Event) → MayDo st c event → IsNoRecovery event → TakenBehind event
  taken_on event may other =
      ⊎_elim
      (λ (begins : event ≡ PutBegin). subst (λ (x : Event). MayDo st c x → TakenBehind x) (sym begins) (λ may_begin. none_taken PutBegin may_begin begin_other (λ same. cc) refl) may)
      (λ (rest : (event ≡ Record) ⊎ IsPlain event). ⊎_elim
      (λ (records : event ≡ Record).
      subst TakenBehind (sym records)
      (ap (λ (ss : List Snapshot). ss ++ snapshot_due c.coordinator ∷ []) e.taken_are ∙ append_assoc e.earlier c.coordinator.snapshots (snapshot_due c.coordinator ∷ [])))
      (λ (plain : IsPlain event). none_taken event may other plain.records (plain.adds c))
      rest)
      (which event)

  -- ---- what their attempts began with

  abbrev FrontsBehind : Event → Type 0
  FrontsBehind event = (fronts : List (List Entry)) → FrontsSoFar start c failed fronts → FrontsSoFar start (after_event st c event) failed (fronts ++ front_at c event)

  none_fronted : (event : Event) → MayDo st c event → IsNoRecovery event → IsNoRecord event → front_at c event ≡ [] → FrontsBehind event
  none_fronted event may other none adds = λ fronts so. (
    so.0,
    ap (λ (fs : List (List Entry)). fronts ++ fs) adds ∙ append-nil fronts ∙ so.1
        ∙ ap₂ (λ (ss : List Snapshot) (front : List Entry). so.0 ++ replicate (length ss) front) (sym (adds_none st c event may other none).0) (ap (λ (b : BaseView). b.order) (sym (base_kept st c event may other))),
    so.2,
  )

  fronts_on : (event : Event) → MayDo st c event → IsNoRecovery event → FrontsBehind event
  fronts_on event may other =
      ⊎_elim
      (λ (begins : event ≡ PutBegin). subst (λ (x : Event). MayDo st c x → FrontsBehind x) (sym begins) (λ may_begin. none_fronted PutBegin may_begin begin_other (λ same. cc) refl) may)
      (λ (rest : (event ≡ Record) ⊎ IsPlain event). ⊎_elim
      (λ (records : event ≡ Record).
      subst FrontsBehind (sym records) (λ fronts so. (
        so.0,
        ap (λ (fs : List (List Entry)). fs ++ c.base.order ∷ []) so.1 ∙ append_assoc so.0 (replicate (length c.coordinator.snapshots) c.base.order) (c.base.order ∷ [])
            ∙ ap (λ (fs : List (List Entry)). so.0 ++ fs) (sym (replicate_push c.coordinator.snapshots (snapshot_due c.coordinator) c.base.order)),
        so.2,
      )))
      (λ (plain : IsPlain event). none_fronted event may other plain.records (plain.fronts c))
      rest)
      (which event)

  -- ---- why a snapshot is under way

  abbrev ReasonBehind : Event → Type 0
  ReasonBehind event = (after_event st c event).coordinator.acknowledged < (after_event st c event).coordinator.begun → HasReason st (after_event st c event) (logged ++ [])

  plain_reason : (event : Event) → MayDo st c event → IsNoRecovery event → IsNoRecord event → IsNoBegin event → ReasonBehind event
  plain_reason event may other records begins = λ under.
      let later : Cluster = after_event st c event in
      let same = adds_none st c event may other records in
      let half : ℕ = half_window st in
      ⊎_elim
      (λ (some : (m : ℕ) × (m < st.machines) × (half ≤ many_outside m c.coordinator.acknowledged logged)).
      inl (some.0, some.1, subst₂ (λ (k : ℕ) (ls : List Logged). half ≤ many_outside some.0 k ls) (sym same.1) (sym (append-nil logged)) some.2))
      (λ (done : HasNoTaskLeft st (world_of c) × ((c.coordinator.snapshots ≡ []) ⊎ (entries_to c.coordinator.acknowledged logged ≡ all_entries logged → ⊥))).
      inr (
        (done_moved st in_call.is (world_of c) (world_of later) in_call.whole.consistent.copies (is_exclusive st in_call.is c in_call.whole) (event_leads st c event may other) done.0).left,
        ⊎_elim
            (λ (none : c.coordinator.snapshots ≡ []). inl (same.0 ∙ none))
            (λ (not : entries_to c.coordinator.acknowledged logged ≡ all_entries logged → ⊥).
            inr (λ full. not (subst₂ (λ (k : ℕ) (ls : List Logged). entries_to k ls ≡ all_entries ls) same.1 (append-nil logged) full)))
            done.1,
      ))
      (e.reason (subst₂ (λ (n k : ℕ). n < k) same.1 (numbers_after st c event other begins).1 under))

  begin_reason : MayDo st c PutBegin → ReasonBehind PutBegin
  begin_reason may = λ under.
      let half : ℕ = half_window st in
      let now : ℕ = c.coordinator.acknowledged in
      ⊎_elim
      (λ (wanted : c.coordinator.wanted ≡ true).
      let some = in_call.asking.wanted wanted in
      inl (some.0, some.1, subst (λ (ls : List Logged). half ≤ many_outside some.0 now ls) (sym (append-nil logged)) some.2))
      (λ (seen : HasSeenTheEnd c.coordinator × ((HoldsAll st c.coordinator → ⊥) ⊎ (c.coordinator.snapshots ≡ []))).
      inr (
        (asked_now may seen.0).left,
        ⊎_elim
            (λ (not : HoldsAll st c.coordinator → ⊥).
            inr (λ full. not (holds_if st in_call.is c in_call.whole logged in_call.account e.watch e.watched seen.0
            (subst (λ (ls : List Logged). entries_to now ls ≡ all_entries ls) (append-nil logged) full))))
            (λ (none : c.coordinator.snapshots ≡ []). inl none)
            seen.1,
      ))
      may.wanted

  reason_on : (event : Event) → MayDo st c event → IsNoRecovery event → ReasonBehind event
  reason_on event may other =
      ⊎_elim
      (λ (begins : event ≡ PutBegin). subst (λ (x : Event). MayDo st c x → ReasonBehind x) (sym begins) begin_reason may)
      (λ (rest : (event ≡ Record) ⊎ IsPlain event). ⊎_elim
      (λ (records : event ≡ Record). subst ReasonBehind (sym records) (λ under. absurd (not_less c.coordinator.begun under)))
      (λ (plain : IsPlain event). plain_reason event may other plain.records plain.begins)
      rest)
      (which event)

  -- ---- each event

  pub quiet_ending : (event : Event) → MayDo st c event → IsNoRecovery event → IsNoUpdate event → FollowsJob st failures c event →
      IsEnding failures start kept number total st (after_event st c event) (logged ++ []) failed (taken ++ recorded_at c event) (unasked + unasked_at c event)
  quiet_ending event may other none follows =
      let seen = event_kept st in_call.is c in_call.whole e.watch e.watched event may other in
      record {
        at = quiet_in failures start st c logged failed in_call event may other none follows;
        watch = seen.0;
        watched = seen.1.0;
        late = quiet_late failures start st c logged failed in_call e.watch e.watched e.late event may other none follows;
        once = once_on event may other none;
        earlier = e.earlier;
        taken_are = taken_on event may other;
        numbered = e.numbered;
        orders = e.orders;
        resumes = e.resumes;
        behind = e.behind;
        reason = reason_on event may other;
        own = own_kept st c e.own in_call.whole event may;
        made_below = e.made_below;
        tickets = ap₂ (λ (n k : ℕ). n + k) (draws_none st c event may none) (left_kept st c event may none) ∙ e.tickets;
      }

  pub update_ending : (s : ScopeId) (may : MayDo st c (Update s)) → FollowsJob st failures c (Update s) →
      IsEnding failures start kept number total st (after_event st c (Update s)) (logged ++ update_logged st c s may.1.vertex ∷ []) failed (taken ++ []) (unasked + 0)
  update_ending s may follows =
      let other : IsNoRecovery (Update s) = λ base same. cc in
      let own = own_logged st in_call.is c in_call.whole logged in_call.account.order s may other in
      let seen = event_kept st in_call.is c in_call.whole e.watch e.watched (Update s) may other in
      record {
        at = update_in failures start st c logged failed in_call s may follows;
        watch = seen.0;
        watched = seen.1.0;
        late = update_late failures start st c logged failed in_call e.watch e.watched e.late s may;
        once = ⊎_elim
            (λ (zero_so : unasked ≡ 0). inl (stays_zero unasked 0 zero_so refl))
            (λ (one_so : (unasked ≡ 1) × HasAskedAll failures st c logged).
            absurd (both_ways ((c.machine s.home.0).part.task may.1.vertex) (one_so.1.left.tasks s.home.0 may.0.machine may.1.vertex own.1) may.1.task))
            e.once;
        earlier = e.earlier;
        taken_are = none_taken (Update s) may other (λ same. cc) refl;
        numbered = e.numbered;
        orders = e.orders;
        resumes = e.resumes;
        behind = e.behind;
        reason = λ under.
            let later : Cluster = after_event st c (Update s) in
            let same = adds_none st c (Update s) may other (λ same. cc) in
            let half : ℕ = half_window st in
            let l : Logged = update_logged st c s may.1.vertex in
            ⊎_elim
            (λ (some : (m : ℕ) × (m < st.machines) × (half ≤ many_outside m c.coordinator.acknowledged logged)).
            inl (
              some.0,
              some.1,
              subst (λ (k : ℕ). half ≤ many_outside some.0 k (logged ++ l ∷ [])) (sym same.1)
                  (le_up half (many_outside some.0 c.coordinator.acknowledged logged) (many_outside some.0 c.coordinator.acknowledged (logged ++ l ∷ [])) some.2
                  (outside_more some.0 c.coordinator.acknowledged logged l)),
            ))
            (λ (done : HasNoTaskLeft st (world_of c) × ((c.coordinator.snapshots ≡ []) ⊎ (entries_to c.coordinator.acknowledged logged ≡ all_entries logged → ⊥))).
            absurd (both_ways ((c.machine s.home.0).part.task may.1.vertex) (done.0.tasks s.home.0 may.0.machine may.1.vertex own.1) may.1.task))
            (e.reason (subst₂ (λ (n k : ℕ). n < k) same.1 (numbers_after st c (Update s) other (λ same. cc)).1 under));
        own = own_kept st c e.own in_call.whole (Update s) may;
        made_below = e.made_below;
        tickets = subst (λ (flight : Option ℕ). (makes st c s flight).next + (makes st c s flight).left ≡ total) (sym may.1.flight) (one_ticket c.next c.left total e.tickets may.1.ticket);
      }

  -- where nobody reached a count nobody failed
  none_failed : ((a : ℕ) → a < st.machines → has_reached failures c a ≡ false) → failures_in st c ≡ 0
  none_failed none =
      total_from-same 0 st.machines (λ a. 0) (λ a. if (c.machine a).failed then 1 else 0)
      (λ a from to. cond-false (c.machine a).failed 1 0
      (false_from_ne_true (c.machine a).failed (λ is. both_ways (has_reached failures c a) (none a (in_range a st.machines to)) (in_call.fails a is))))
      ∙ total_from-none 0 st.machines (λ a. 0) (λ a. refl)
    where
      in_range : (a n : ℕ) → a < 0 + n → a < n
      in_range a n low = omega arith

  pub recover_ending : (base : BaseView) (back : GoesBackTo st c base) → FollowsJob st failures c (Recover base) →
      IsEnding failures start kept number total (setting_after st (Recover base)) (recovers st base c) [] (failed ++ now_made failures start st c logged failed in_call ∷ []) (taken ++ []) (unasked + 0)
  recover_ending base back follows =
      let seen = watch_kept st in_call.is c (in_call.whole, e.watch, e.watched) (Recover base) back in
      let a : Attempt = now_made failures start st c logged failed in_call in
      let snapshots : List Snapshot = c.coordinator.snapshots in
      let behind : Beginning = begins_behind start failed in
      let newest : List Entry = last_order kept (attempted_snapshots start failed) in
      let next_call : IsInCall failures start (setting_after st (Recover base)) (recovers st base c) [] (failed ++ a ∷ []) = recover_in failures start st c logged failed in_call base back follows in
      let long : c.coordinator.acknowledged ≡ st.base + length snapshots = numbered_long st.base c.coordinator.acknowledged snapshots in_call.account.records.numbered in
      record {
        at = next_call;
        watch = seen.0;
        watched = seen.1;
        late = recovered_late failures st (setting_after st (Recover base)) base c;
        once = ⊎_elim
            (λ (zero_so : unasked ≡ 0). inl (stays_zero unasked 0 zero_so refl))
            (λ (one_so : (unasked ≡ 1) × HasAskedAll failures st c logged). absurd (not_none (failures_in st c) (none_failed one_so.1.none) back.failed))
            e.once;
        earlier = e.earlier ++ snapshots;
        taken_are = ap (λ (ss : List Snapshot). ss ++ []) e.taken_are;
        numbered = back.number
            ∙ grows number st.base c.coordinator.acknowledged (length e.earlier) e.numbered (length snapshots) long
            ∙ ap (λ (n : ℕ). number + n) (sym (length-append e.earlier snapshots));
        orders = subst (AreSnapshotsOf st number kept (e.earlier ++ snapshots)) (sym (attempted_push start failed a))
            (snapshots_append st number kept e.earlier snapshots (attempted_snapshots start failed) (snapshot_orders behind a) e.orders
            (subst (λ (n : ℕ). AreSnapshotsOf st n newest snapshots (snapshot_orders behind a)) e.numbered
            (good_snapshots st in_call.is c in_call.whole logged in_call.account in_call.based failures behind in_call.so.front in_call.so.tickets newest e.resumes)));
        resumes = subst (λ (orders : List (List Entry)). ResumesFrom (last_order kept orders) (begins_behind start (failed ++ a ∷ [])).front) (sym (attempted_push start failed a))
            (subst (λ (order : List Entry). ResumesFrom order (begins_behind start (failed ++ a ∷ [])).front) (sym (last_order_append kept (attempted_snapshots start failed) (snapshot_orders behind a)))
            (subst (λ (b : Beginning). ResumesFrom (last_order newest (snapshot_orders behind a)) b.front) (sym (begins_push start failed a))
            (goes_back (shared_of st failures) newest behind a
            (made_now failures start st in_call.is c in_call.whole logged in_call.account in_call.based failed in_call.so in_call.stops) e.resumes)));
        behind = inr (λ is.
            again_longer newest behind a e.resumes (have_last (shared_of st failures) start failed a next_call.so.have)
            (sym (ap (λ (b : Beginning). b.front) (begins_push start failed a)) ∙ is ∙ ap (last_order kept) (attempted_push start failed a)
            ∙ last_order_append kept (attempted_snapshots start failed) (snapshot_orders behind a)));
        reason = λ under. absurd (not_less base.number under);
        own = begins_own st (setting_after st (Recover base)) base c;
        made_below = each-append (λ (one : Attempt). AllByRecursion (IsByMachineBelow st.machines) one.made) failed (a ∷ []) e.made_below
            (own_by_machines st in_call.is (all_entries logged) (all_own st in_call.is logged in_call.account.since), tt);
        tickets = e.tickets;
      }

  -- what an event leaves
  abbrev Leaves : Event → Type 0
  Leaves event = (now : List Logged) × (more : List Attempt)
      × IsEnding failures start kept number total (setting_after st event) (after_event st c event) now more (taken ++ recorded_at c event) (unasked + unasked_at c event)
      × ((lost : List Entry) → IsTakenBy st c event lost → lost_in more ≡ lost_in failed ++ lost)
      × ((fronts : List (List Entry)) → FrontsSoFar start c failed fronts → FrontsSoFar start (after_event st c event) more (fronts ++ front_at c event))

  long_counts : (snapshots : List Snapshot) → length (counts_of logged snapshots) ≡ length snapshots
  long_counts snapshots = length-map snapshots (λ (snapshot : Snapshot). count_to logged snapshot.number)

  -- the snapshots of all attempts up to this one
  pub all_fronted : (fronts : List (List Entry)) → FrontsSoFar start c failed fronts →
      HaveRestartsOf fronts (attempted_snapshots start failed ++ snapshot_orders (begins_behind start failed) (now_made failures start st c logged failed in_call))
  all_fronted fronts so =
      let a : Attempt = now_made failures start st c logged failed in_call in
      let b : Beginning = begins_behind start failed in
      let many : ℕ = length c.coordinator.snapshots in
      subst (λ (fs : List (List Entry)). HaveRestartsOf fs (attempted_snapshots start failed ++ snapshot_orders b a)) (sym so.1)
      (restarts_append so.0 (replicate many c.base.order) (attempted_snapshots start failed) (snapshot_orders b a) so.2
      (attempt_restarts b a c.base.order in_call.so.front in_call.so.tickets many (counts_of logged c.coordinator.snapshots) (long_counts c.coordinator.snapshots)))

  recover_fronts : (base : BaseView) (fronts : List (List Entry)) → FrontsSoFar start c failed fronts →
      FrontsSoFar start (recovers st base c) (failed ++ now_made failures start st c logged failed in_call ∷ []) (fronts ++ [])
  recover_fronts base fronts so = (
    fronts,
    refl,
    subst (HaveRestartsOf fronts) (sym (attempted_push start failed (now_made failures start st c logged failed in_call))) (all_fronted fronts so),
  )

  -- nothing is lost without a recovery
  none_lost : (event : Event) → IsNoRecovery event → (lost : List Entry) → IsTakenBy st c event lost → lost_in failed ≡ lost_in failed ++ lost
  none_lost event other lost by = sym (append-nil (lost_in failed)) ∙ ap (λ (es : List Entry). lost_in failed ++ es) (sym (by.other other))

  some_lost : (base : BaseView) → GoesBackTo st c base → (lost : List Entry) → IsTakenBy st c (Recover base) lost →
      lost_in (failed ++ now_made failures start st c logged failed in_call ∷ []) ≡ lost_in failed ++ lost
  some_lost base back lost by =
      let a : Attempt = now_made failures start st c logged failed in_call in
      lost_push failed a
      ∙ ap (λ (es : List Entry). lost_in failed ++ es)
      (taken_once st c base (unheld_updates a) lost
      (unheld_taken st in_call.is c in_call.whole logged in_call.account in_call.based failures (begins_behind start failed) in_call.so.tickets base back) (by.recovery base refl))

  pub event_ending : (event : Event) → MayDo st c event → FollowsJob st failures c event → Leaves event
  event_ending event may follows =
      by_kind (λ x. MayDo st c x → FollowsJob st failures c x → Leaves x)
      (λ x other none may_x follows_x. (
        logged ++ [],
        failed,
        subst (λ (s : Setting). IsEnding failures start kept number total s (after_event st c x) (logged ++ []) failed (taken ++ recorded_at c x) (unasked + unasked_at c x)) (sym (setting_same st x other))
            (quiet_ending x may_x other none follows_x),
        none_lost x other,
        fronts_on x may_x other,
      ))
      (λ s may_x follows_x. (logged ++ update_logged st c s may_x.1.vertex ∷ [], failed, update_ending s may_x follows_x, none_lost (Update s) (λ base same. cc), fronts_on (Update s) may_x (λ base same. cc)))
      (λ base may_x follows_x. ([], failed ++ now_made failures start st c logged failed in_call ∷ [], recover_ending base may_x follows_x, some_lost base may_x, recover_fronts base))
      event may follows

-- ---- every list of events

plus_none : (n : ℕ) → n ≡ n + 0
plus_none n = omega arith

plus_more : (n k m : ℕ) → (n + k) + m ≡ n + (k + m)
plus_more n k m = omega arith

-- where they lead, where these attempts had failed before
abbrev pub EndsBehind : List FailureAt → Beginning → List Entry → ℕ → ℕ → Setting → Cluster → List Snapshot → ℕ → List Attempt → (List Entry → Type 0) → (List (List Entry) → Type 0) → Type 0
EndsBehind failures start kept number total st c taken unasked before AreLost AreFronts = (now : List Logged) × (more : List Attempt) × IsEnding failures start kept number total st c now more taken unasked
    × ((lost : List Entry) → AreLost lost → lost_in more ≡ lost_in before ++ lost)
    × ((fronts : List (List Entry)) → AreFronts fronts → FrontsSoFar start c more fronts)

-- these go on from fronts of before
abbrev pub GoOnFrom : Beginning → Setting → Cluster → List Event → List Attempt → List (List Entry) → Type 0
GoOnFrom start st old events failed all = (fronts : List (List Entry)) × FrontsSoFar start old failed fronts × (all ≡ fronts ++ fronts_in st old events)

pub traces_end : (failures : List FailureAt) (start : Beginning) (kept : List Entry) (number total : ℕ) (events : List Event) (st : Setting) (old last : Cluster) (logged : List Logged) (failed : List Attempt) (taken : List Snapshot) (unasked : ℕ) →
    IsEnding failures start kept number total st old logged failed taken unasked → IsTrace st old events last → FollowJob st failures old events →
    EndsBehind failures start kept number total (setting_behind st events) last (taken ++ recorded_in st old events) (unasked + unasked_in st old events) failed (AreLostIn st old events) (GoOnFrom start st old events failed)
traces_end failures start kept number total [] st old last logged failed taken unasked e trace follow =
    subst (λ (c : Cluster). EndsBehind failures start kept number total st c (taken ++ []) (unasked + 0) failed (AreLostIn st old []) (GoOnFrom start st old [] failed)) (sym trace)
    (subst (λ (ss : List Snapshot). EndsBehind failures start kept number total st old ss (unasked + 0) failed (AreLostIn st old []) (GoOnFrom start st old [] failed)) (sym (append-nil taken))
    (subst (λ (n : ℕ). EndsBehind failures start kept number total st old taken n failed (AreLostIn st old []) (GoOnFrom start st old [] failed)) (plus_none unasked) (
      logged,
      failed,
      e,
      λ lost none. sym (append-nil (lost_in failed)) ∙ ap (λ (es : List Entry). lost_in failed ++ es) (sym none),
      λ fronts go. subst (FrontsSoFar start old failed) (sym (go.2 ∙ append-nil go.0)) go.1,
    )))
traces_end failures start kept number total (event ∷ events) st old last logged failed taken unasked e trace follow =
    let mid : Cluster = after_event st old event in
    let after_it : Setting = setting_after st event in
    let one = event_ending failures start kept number total st old logged failed taken unasked e event trace.0.1 follow.0 in
    let rest = traces_end failures start kept number total events after_it mid last one.0 one.1 (taken ++ recorded_at old event) (unasked + unasked_at old event) one.2 trace.1 follow.1 in
    let lost_so : (lost : List Entry) → AreLostIn st old (event ∷ events) lost → lost_in rest.1 ≡ lost_in failed ++ lost = λ lost are.
    rest.3 are.1 are.3 ∙ ap (λ (es : List Entry). es ++ are.1) (one.3 are.0 are.2) ∙ append_assoc (lost_in failed) are.0 are.1 ∙ ap (λ (es : List Entry). lost_in failed ++ es) (sym are.4) in
    let fronts_so : (all : List (List Entry)) → GoOnFrom start st old (event ∷ events) failed all → FrontsSoFar start last rest.1 all = λ all go.
    rest.4 all (go.0 ++ front_at old event, one.4 go.0 go.1, go.2 ∙ sym (append_assoc go.0 (front_at old event) (fronts_in after_it mid events))) in
    subst (λ (ss : List Snapshot). EndsBehind failures start kept number total (setting_behind after_it events) last ss (unasked + (unasked_at old event + unasked_in after_it mid events)) failed (AreLostIn st old (event ∷ events)) (GoOnFrom start st old (event ∷ events) failed))
    (append_assoc taken (recorded_at old event) (recorded_in after_it mid events))
    (subst (λ (n : ℕ). EndsBehind failures start kept number total (setting_behind after_it events) last ((taken ++ recorded_at old event) ++ recorded_in after_it mid events) n failed (AreLostIn st old (event ∷ events)) (GoOnFrom start st old (event ∷ events) failed))
    (plus_more unasked (unasked_at old event) (unasked_in after_it mid events)) (rest.0, rest.1, rest.2, lost_so, fronts_so))
