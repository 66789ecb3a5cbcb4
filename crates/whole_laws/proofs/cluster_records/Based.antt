-- The base of an attempt, and the one to which a recovery goes back.
use Rattle.std.proofs.Common.{arith, ◌≤◌, ◌≡◌, ◌<◌, Bool, true, ℕ, suc, Option, List, [], ◌∷◌, ◌++◌, IsPermutation, refl, sym, ◌∙◌, ap, subst, append_assoc, append-nil}
use Rattle.std.specs.List.{AllByRecursion}
use Rattle.std.proofs.lemmas.Bool.{lt-ltb}
use Rattle.std.proofs.lemmas.List.Sorted.{IsPermutation-append_right, IsPermutation-sym, IsPermutation-trans}
use Rattle.gl_base.specs.declared.entries.Entry.{Entry}
use Rattle.gl_base.specs.declared.scopes.ScopeId.{ScopeId}
use Rattle.graph_core.specs.DataGraph.{size}
use Rattle.cluster_laws.specs.cluster_core.Messages.{Message}
use Rattle.cluster_laws.specs.cluster_core.Recovering.{going_on}
use Rattle.cluster_laws.specs.cluster_core.Replays.{replay_of, tasks_of}
use Rattle.cluster_laws.specs.cluster_core.Settings.{IsSetting, Setting}
use Rattle.cluster_laws.specs.cluster_model.ByTicket.{StandByTicket, restarts}
use Rattle.cluster_laws.specs.cluster_model.Calls.{Call, Report}
use Rattle.cluster_laws.specs.cluster_model.Clusters.{BaseView, Cluster}
use Rattle.cluster_laws.specs.cluster_model.Events.{Event, Admit, DeliverCall, DeliverReport, Deliver, Fail, GoesBackTo, Grant, Mark, MayDo, PutBegin, PutStep, PutWave, Record, Recover, Section, Send, SendCall, SendReport, Stop, Update, after_event, delivers_call, delivers_message, delivers_report, entries_in_all, failures_in, makes, newest_of, recovers, saves, sends_call, sends_message, sends_report, snapshot_numbers}
use Rattle.cluster_laws.specs.cluster_model.Leading.{Snapshot}
use Rattle.whole_laws.specs.cluster_whole.Logged.{Logged, all_entries, entries_to, is_up_to}
use Rattle.whole_laws.specs.cluster_whole.Whole.{IsNoRecovery, IsWhole}
use Rattle.whole_laws.specs.cluster_records.Bases.{IsBase, IsBased, IsOpening}
use Rattle.whole_laws.specs.cluster_records.Recorded.{HaveSameNumbers, IsAccounted, IsGoodSnapshot, IsOwnUpdate}
use Rattle.whole_laws.proofs.cluster_records.Entering.{IsNoUpdate, draws_none, update_logged}
use Rattle.whole_laws.proofs.cluster_records.Filtering.{all-more, nothing_up_to}
use Rattle.whole_laws.proofs.cluster_records.Gathering.{all_gathered, all_since}
use Rattle.whole_laws.proofs.cluster_records.Merging.{one_order, stand_behind, stand_push, stand_restarts}
use Rattle.whole_laws.proofs.cluster_records.Numbering.{all_own, all_same, left_same, passing_own, replay-append, replay-restarts, replayed_same, restarts_tasks, restarts_valid, same_numbers, same_then, tasks-append, valid-append, valid_same}
use Rattle.whole_laws.proofs.cluster_records.Recording.{all_new, newest_numbers, newest_valid}
use Rattle.seq_run.specs.Orders.{IsValidFrom, IsValidOrder, all_tasks, replay, replay_from, tasks_after}
use Rattle.seq_run.specs.States.{GraphState, start_state}

pub base_kept : (st : Setting) (c : Cluster) (event : Event) → MayDo st c event → IsNoRecovery event → (after_event st c event).base ≡ c.base
base_kept st c (Admit a v) may other = refl
base_kept st c (Grant a x) may other = refl
base_kept st c (Send p q) may other = subst (λ (ms : List Message). (sends_message c p q ms).base ≡ c.base) (sym may.2.first) refl
base_kept st c (SendCall a) may other = subst (λ (calls : List Call). (sends_call c a calls).base ≡ c.base) (sym may.1.first) refl
base_kept st c (SendReport a) may other = subst (λ (reports : List Report). (sends_report c a reports).base ≡ c.base) (sym may.1.first) refl
base_kept st c (Deliver p q) may other = subst (λ (ms : List Message). (delivers_message st c p q ms).base ≡ c.base) (sym may.2.first) refl
base_kept st c (DeliverCall a) may other = subst (λ (calls : List Call). (delivers_call st c a calls).base ≡ c.base) (sym may.1.first) refl
base_kept st c (DeliverReport a) may other = subst (λ (reports : List Report). (delivers_report c a reports).base ≡ c.base) (sym may.1.first) refl
base_kept st c (Update s) may other = subst (λ (flight : Option ℕ). (makes st c s flight).base ≡ c.base) (sym may.1.flight) refl
base_kept st c (Mark s) may other = subst (λ (flight : Option ℕ). (saves st c s flight).base ≡ c.base) (sym may.1.flight) refl
base_kept st c (Section a) may other = refl
base_kept st c Record may other = refl
base_kept st c PutBegin may other = refl
base_kept st c PutStep may other = refl
base_kept st c PutWave may other = refl
base_kept st c (Fail a) may other = refl
base_kept st c (Recover base) may other = absurd (other base refl)
base_kept st c Stop may other = refl

-- no order, and the start state
pub first_base : (st : Setting) (next : ℕ) → IsBase st (record { number = 0; order = []; numbers = start_state st.graph st.program }) next
first_base st next =
    record {
      front = record { valid = tt; tasks = λ u low. lt-ltb u (size st.graph) low };
      numbers = same_numbers st.graph (start_state st.graph st.program);
      by_ticket = zero_low next;
    }
  where
    zero_low : (n : ℕ) → 0 ≤ n
    zero_low n = omega arith

-- an attempt begins with its base, and no update
pub begun_based : (st : Setting) (base : BaseView) (c : Cluster) → IsBase st base c.next → IsBased (going_on st base.numbers base.number) (recovers st base c) []
begun_based st base c its =
    record { number = refl; start = refl; front = record { valid = its.front.valid; tasks = its.front.tasks }; numbers = its.numbers; by_ticket = subst (λ (es : List Entry). StandByTicket 0 es c.next) (sym (append-nil base.order)) its.by_ticket }

module _ (st : Setting) (c : Cluster) (logged : List Logged) (based : IsBased st c logged) where
  -- the cluster has the same base, and its updates stand by ticket
  based_on : (new : Cluster) → new.base ≡ c.base → (more : List Logged) → StandByTicket 0 (c.base.order ++ all_entries (logged ++ more)) new.next → IsBased st new (logged ++ more)
  based_on new same more stand =
      record {
        number = (λ i. (same i).number) ∙ based.number;
        start = (λ i. (same i).numbers) ∙ based.start;
        front = subst (λ (b : BaseView). IsOpening st b.order) (sym same) based.front;
        numbers = subst (λ (b : BaseView). HaveSameNumbers st.graph b.numbers (replay st.graph st.program b.order)) (sym same) based.numbers;
        by_ticket = subst (λ (b : BaseView). StandByTicket 0 (b.order ++ all_entries (logged ++ more)) new.next) (sym same) stand;
      }

  pub still_based : (event : Event) → MayDo st c event → IsNoRecovery event → IsNoUpdate event → IsBased st (after_event st c event) (logged ++ [])
  still_based event may other none =
      based_on (after_event st c event) (base_kept st c event may other) []
      (subst (λ (ls : List Logged). StandByTicket 0 (c.base.order ++ all_entries ls) (after_event st c event).next) (sym (append-nil logged))
      (subst (λ (n : ℕ). StandByTicket 0 (c.base.order ++ all_entries logged) n) (sym (draws_none st c event may none)) based.by_ticket))

  pub update_based : (s : ScopeId) (may : MayDo st c (Update s)) → IsNoRecovery (Update s) → IsBased st (after_event st c (Update s)) (logged ++ update_logged st c s may.1.vertex ∷ [])
  update_based s may other =
      let l : Logged = update_logged st c s may.1.vertex in
      let drawn : (after_event st c (Update s)).next ≡ suc c.next = subst (λ (flight : Option ℕ). (makes st c s flight).next ≡ suc c.next) (sym may.1.flight) refl in
      based_on (after_event st c (Update s)) (base_kept st c (Update s) may other) (l ∷ [])
      (subst (λ (n : ℕ). StandByTicket 0 (c.base.order ++ all_entries (logged ++ l ∷ [])) n) (sym drawn)
      (subst (λ (es : List Entry). StandByTicket 0 es (suc c.next)) (append_assoc c.base.order (all_entries logged) (l.entry ∷ []) ∙ ap (λ (es : List Entry). c.base.order ++ es) (sym (all-more logged (l ∷ []))))
      (stand_push 0 c.next (c.base.order ++ all_entries logged) s.home (record { 0 = may.1.vertex }) based.by_ticket)))

-- ---- what the attempt began with

-- its numbers are those of the base's order
begins_same : (st : Setting) (c : Cluster) (logged : List Logged) → IsBased st c logged → HaveSameNumbers st.graph st.start (replay st.graph st.program c.base.order)
begins_same st c logged based = subst (λ (s : GraphState). HaveSameNumbers st.graph s (replay st.graph st.program c.base.order)) based.start based.numbers

-- and every vertex is a task
first_tasks : (st : Setting) (c : Cluster) (logged : List Logged) → IsBased st c logged → (u : ℕ) → u < size st.graph → all_tasks st.graph u ≡ tasks_after st.graph st.program c.base.order u
first_tasks st c logged based u low = lt-ltb u (size st.graph) low ∙ sym (based.front.tasks u low)

-- ---- the order of a whole call

module _ (st : Setting) (is : IsSetting st) (c : Cluster) (whole : IsWhole st c) (logged : List Logged) (account : IsAccounted st c whole logged) (based : IsBased st c logged) where
  abbrev order : List Entry
  order = whole.consistent.order

  abbrev before : GraphState
  before = replay st.graph st.program c.base.order

  order_own : AllByRecursion (IsOwnUpdate st) order
  order_own = subst (AllByRecursion (IsOwnUpdate st)) (sym account.order.order) (all_own st is logged account.since)

  pub call_valid : IsValidOrder st.graph st.program (c.base.order ++ order)
  call_valid =
      valid-append st.graph st.program (start_state st.graph st.program) (all_tasks st.graph) c.base.order order based.front.valid
      (valid_same st is st.start before (all_tasks st.graph) (tasks_after st.graph st.program c.base.order) order order_own (begins_same st c logged based) (first_tasks st c logged based) whole.consistent.replay.valid)

  pub call_stands : StandByTicket 0 (c.base.order ++ order) c.next
  call_stands = subst (λ (es : List Entry). StandByTicket 0 (c.base.order ++ es) c.next) (sym account.order.order) based.by_ticket

  pub call_numbers : (v : ℕ) → v < size st.graph → ((c.machine (st.owner v)).part.datum v).value ≡ (replay st.graph st.program (c.base.order ++ order)).vertex v
  call_numbers v low =
      whole.consistent.replay.numbers v low ∙ (all_same st is st.start before order order_own (begins_same st c logged based)).vertices v low
      ∙ ap (λ (s : GraphState). s.vertex v) (sym (replay-append st.graph st.program (start_state st.graph st.program) c.base.order order))

  pub call_tasks : (u : ℕ) → u < size st.graph → tasks_of st order u ≡ tasks_after st.graph st.program (c.base.order ++ order) u
  call_tasks u low =
      left_same st is st.start before (all_tasks st.graph) (tasks_after st.graph st.program c.base.order) order order_own (begins_same st c logged based) (first_tasks st c logged based) u low
      ∙ sym (λ i. tasks-append st.graph st.program (start_state st.graph st.program) (all_tasks st.graph) c.base.order order i u)

  -- and that of each good snapshot
  pub snapshot_valid : (snapshot : Snapshot) → IsGoodSnapshot st logged snapshot → IsValidOrder st.graph st.program (c.base.order ++ entries_to snapshot.number logged)
  snapshot_valid snapshot good =
      let cut : List Entry = entries_to snapshot.number logged in
      valid-append st.graph st.program (start_state st.graph st.program) (all_tasks st.graph) c.base.order cut based.front.valid
      (valid_same st is st.start before (all_tasks st.graph) (tasks_after st.graph st.program c.base.order) cut
      (passing_own st is (is_up_to snapshot.number) logged account.since) (begins_same st c logged based) (first_tasks st c logged based) good.valid)

  pub snapshot_replayed : (snapshot : Snapshot) → IsGoodSnapshot st logged snapshot → HaveSameNumbers st.graph (snapshot_numbers st snapshot) (replay st.graph st.program (c.base.order ++ entries_to snapshot.number logged))
  snapshot_replayed snapshot good =
      let cut : List Entry = entries_to snapshot.number logged in
      subst (HaveSameNumbers st.graph (snapshot_numbers st snapshot)) (sym (replay-append st.graph st.program (start_state st.graph st.program) c.base.order cut))
      (same_then st.graph (snapshot_numbers st snapshot) (replay_of st cut) (replay_from st.graph st.program before cut) good.numbers
      (replayed_same st is st.start before (is_up_to snapshot.number) logged account.since (begins_same st c logged based)))

-- ---- where a recovery goes back to

module _ (st : Setting) (is : IsSetting st) (c : Cluster) (whole : IsWhole st c) (logged : List Logged) (account : IsAccounted st c whole logged) (based : IsBased st c logged) (base : BaseView) (back : GoesBackTo st c base) where
  -- the updates that the newest snapshot has
  abbrev held : List Entry
  held = entries_to c.coordinator.acknowledged logged

  abbrev failures : ℕ
  failures = failures_in st c

  kept_is : back.kept ≡ c.base.order ++ held
  kept_is =
      let all : List Entry = entries_in_all st c.coordinator.snapshots in
      let gathered : IsPermutation all held = all_gathered st is logged account.since c.coordinator.acknowledged c.coordinator.snapshots account.records.numbered (all_new st logged c.coordinator.snapshots account.records.good) in
      one_order 0 0 c.next c.next back.kept (c.base.order ++ held) back.by_ticket
      (stand_behind 0 c.next c.base.order (is_up_to c.coordinator.acknowledged) logged based.by_ticket)
      (IsPermutation-trans back.kept (c.base.order ++ all) (c.base.order ++ held)
      (IsPermutation-sym (c.base.order ++ all) back.kept back.same)
      (IsPermutation-append_right c.base.order all held gathered))

  pub base_order : base.order ≡ (c.base.order ++ held) ++ restarts failures c.next
  base_order = back.order ∙ ap (λ (es : List Entry). es ++ restarts failures c.next) kept_is

  base_numbers : HaveSameNumbers st.graph base.numbers (replay st.graph st.program base.order)
  base_numbers =
      let start : GraphState = start_state st.graph st.program in
      let before : GraphState = replay st.graph st.program c.base.order in
      let newest : HaveSameNumbers st.graph base.numbers (replay_of st held) =
      subst (λ (s : GraphState). HaveSameNumbers st.graph s (replay_of st held)) (sym (back.numbers ∙ ap (newest_of st c.coordinator.snapshots) based.start))
      (newest_numbers st logged st.base c.coordinator.acknowledged c.coordinator.snapshots st.start account.records.numbered account.records.good
      (subst (λ (es : List Entry). HaveSameNumbers st.graph st.start (replay_of st es)) (sym (nothing_up_to st.base logged (all_since st is logged account.since))) (same_numbers st.graph st.start))) in
      let begins : HaveSameNumbers st.graph st.start before = begins_same st c logged based in
      let goes_on : HaveSameNumbers st.graph (replay_of st held) (replay_from st.graph st.program before held) =
      replayed_same st is st.start before (is_up_to c.coordinator.acknowledged) logged account.since begins in
      subst (λ (s : GraphState). HaveSameNumbers st.graph base.numbers s)
      (sym (ap (replay_from st.graph st.program start) base_order ∙ replay-append st.graph st.program start (c.base.order ++ held) (restarts failures c.next)
      ∙ replay-restarts st.graph st.program (replay_from st.graph st.program start (c.base.order ++ held)) failures c.next
      ∙ replay-append st.graph st.program start c.base.order held))
      (same_then st.graph base.numbers (replay_of st held) (replay_from st.graph st.program before held) newest goes_on)

  -- from the attempt's numbers on, and behind the base's order
  held_valid : IsValidFrom st.graph st.program (replay st.graph st.program c.base.order) (tasks_after st.graph st.program c.base.order) held
  held_valid =
      valid_same st is st.start (replay st.graph st.program c.base.order) (all_tasks st.graph) (tasks_after st.graph st.program c.base.order) held
      (passing_own st is (is_up_to c.coordinator.acknowledged) logged account.since) (begins_same st c logged based) (first_tasks st c logged based)
      (newest_valid st logged st.base c.coordinator.acknowledged c.coordinator.snapshots account.records.numbered account.records.good
      (subst (IsValidFrom st.graph st.program st.start (all_tasks st.graph)) (sym (nothing_up_to st.base logged (all_since st is logged account.since))) tt))

  base_front : IsOpening st base.order
  base_front =
      let start : GraphState = start_state st.graph st.program in
      let every : ℕ → Bool = all_tasks st.graph in
      let front : List Entry = c.base.order ++ held in
      let last : List Entry = restarts failures c.next in
      record {
        valid = subst (IsValidOrder st.graph st.program) (sym base_order)
            (valid-append st.graph st.program start every front last
            (valid-append st.graph st.program start every c.base.order held based.front.valid held_valid)
            (restarts_valid st.graph st.program (replay st.graph st.program front) (tasks_after st.graph st.program front) failures c.next));
        tasks = λ u low. subst (λ (es : List Entry). tasks_after st.graph st.program es u ≡ true) (sym base_order)
            ((λ i. tasks-append st.graph st.program start every front last i u)
            ∙ restarts_tasks st.graph st.program (replay st.graph st.program front) (tasks_after st.graph st.program front) failures c.next back.failed u low);
      }

  pub next_base : IsBase st base c.next
  next_base =
      record {
        front = base_front;
        numbers = base_numbers;
        by_ticket = subst (λ (es : List Entry). StandByTicket 0 es c.next) (sym base_order)
            (stand_restarts 0 c.next failures (c.base.order ++ held) (stand_behind 0 c.next c.base.order (is_up_to c.coordinator.acknowledged) logged based.by_ticket));
      }
