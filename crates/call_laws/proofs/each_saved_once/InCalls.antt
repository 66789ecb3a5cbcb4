-- In the course of a call: what is saved once, and how far tickets go.
use Rattle.std.proofs.Common.{◌≡◌, ℕ, zero, suc, ◌+◌, ◌<◌, ◌≤◌, Bool, true, false, None, Some, List, [], ◌∷◌, ◌++◌, length, sym, ◌∙◌, ap, subst, ⊎_elim, le_refl, le_trans, lt_of_lt_of_le, arith}
use Rattle.std.specs.List.{AllByRecursion}
use Rattle.std.proofs.lemmas.Bool.{cases_Bool}
use Rattle.gl_base.specs.declared.entries.Entry.{Entry}
use Rattle.gl_base.specs.declared.entries.Entry.TheVariants.{Go, Restart}
use Rattle.gl_base.specs.declared.jobs.FailureAt.{FailureAt}
use Rattle.graph_core.specs.DataGraph.{size}
use Rattle.graph_core.proofs.HalvesLaws.{each-append, each-front, each-weaker}
use Rattle.call_laws.specs.attempts.EngineCalls.{EngineCall, first_ticket, made_of, ticket_above}
use Rattle.cluster_laws.specs.cluster_core.Messages.{Section}
use Rattle.cluster_laws.specs.cluster_core.Recovering.{going_on}
use Rattle.cluster_laws.specs.cluster_core.Replays.{ticket_of}
use Rattle.cluster_laws.specs.cluster_core.Settings.{IsSetting, Setting}
use Rattle.cluster_laws.specs.cluster_core.Worlds.{World}
use Rattle.cluster_laws.proofs.cluster_cuts.MarkEvents.{all_known, section_come}
use Rattle.whole_laws.proofs.cluster_ending.Traces.{setting_same}
use Rattle.cluster_laws.specs.cluster_model.ByTicket.{StandByTicket}
use Rattle.cluster_laws.specs.cluster_model.Clusters.{BaseView, Cluster}
use Rattle.cluster_laws.specs.cluster_model.Events.{Event, IsTrace, MayDo, Recover, Update, after_event, entries_below, recovers, setting_after}
use Rattle.cluster_laws.specs.cluster_model.Leading.{RecordIsDue}
use Rattle.whole_laws.specs.cluster_records.Bases.{IsBased}
use Rattle.whole_laws.specs.cluster_records.Listed.{is_first_in}
use Rattle.whole_laws.specs.cluster_records.Recorded.{IsAccounted, IsOwnUpdate, snapshot_due}
use Rattle.whole_laws.proofs.cluster_records.Traces.{traces_go, event_goes}
use Rattle.whole_laws.proofs.cluster_records.Filtering.{passing, passing-cons_in, passing-cons_out}
use Rattle.whole_laws.proofs.cluster_records.Numbering.{all_own}
use Rattle.whole_laws.proofs.cluster_records.Recording.{come_section, due_updates, next_number}
use Rattle.whole_laws.specs.cluster_whole.Logged.{Logged, all_entries}
use Rattle.whole_laws.specs.cluster_whole.Views.{world_of}
use Rattle.whole_laws.specs.cluster_whole.Whole.{IsNoRecovery, IsWhole, setting_behind}
use Rattle.whole_laws.proofs.cluster_whole.Joining.{event_leads}
use Rattle.whole_laws.proofs.cluster_whole.Wholeness.{is_exclusive, may_record}
use Rattle.call_laws.proofs.each_saved_once.OnlyOnce.{SavesRight, move_right}
use Rattle.call_laws.specs.whole_calls.Called.{IsCallOf}
use Rattle.call_laws.specs.whole_calls.Opened.{IsTraceOfCall}
use Rattle.call_laws.specs.whole_calls.Telling.{CallReport}
use Rattle.call_laws.proofs.whole_calls.Calling.{the_call}
use Rattle.call_laws.proofs.whole_calls.EventKinds.{by_kind}
use Rattle.call_laws.proofs.whole_calls.Going.{IsInCall}
use Rattle.call_laws.proofs.whole_calls.Leading.{behind_since, opened_at, opened_in, since}

none_some : (x : ℕ) → None ≡ Some x → ⊥
none_some x is = cc

-- ---- each event, and every list of events

-- nothing is saved as an attempt begins
begins_right : (st now : Setting) (base : BaseView) (c : Cluster) → SavesRight now (world_of (recovers st base c))
begins_right st now base c =
    record {
      once = λ a b e x y low_a low_b within same one other. absurd (none_some x one);
      vertices = λ a v x its. absurd (none_some x its);
      edges = λ a e x its. absurd (none_some x its);
    }

module _ (st : Setting) (is : IsSetting st) (c : Cluster) (whole : IsWhole st c) (right : SavesRight st (world_of c)) where
  moved_right : (event : Event) → MayDo st c event → IsNoRecovery event → SavesRight (setting_after st event) (world_of (after_event st c event))
  moved_right event may other =
      subst (λ (s : Setting). SavesRight s (world_of (after_event st c event))) (sym (setting_same st event other))
      (move_right st is (world_of c) whole.consistent (is_exclusive st is c whole) right (world_of (after_event st c event)) (event_leads st c event may other))

  event_right : (event : Event) → MayDo st c event → SavesRight (setting_after st event) (world_of (after_event st c event))
  event_right event =
      by_kind (λ (x : Event). MayDo st c x → SavesRight (setting_after st x) (world_of (after_event st c x)))
      (λ x other none may. moved_right x may other)
      (λ s may. moved_right (Update s) may (λ base same. cc))
      (λ base may. begins_right st (setting_after st (Recover base)) base c)
      event

traces_right : (events : List Event) (st : Setting) → IsSetting st → (old new : Cluster) (whole : IsWhole st old) (logged : List Logged) → IsAccounted st old whole logged → IsBased st old logged →
    IsTrace st old events new → SavesRight st (world_of old) → SavesRight (setting_behind st events) (world_of new)
traces_right [] st is old new whole logged account based trace right = subst (λ (c : Cluster). SavesRight st (world_of c)) (sym trace) right
traces_right (event ∷ events) st is old new whole logged account based trace right =
    let goes = event_goes st is old whole logged account based event trace.0.1 in
    traces_right events (setting_after st event) goes.0 (after_event st old event) new goes.1 goes.2 goes.3 goes.4 trace.1 (event_right st is old whole right event trace.0.1)

-- ---- where a record is due

module _ (st : Setting) (is : IsSetting st) (c : Cluster) (whole : IsWhole st c) where
  abbrev w : World
  w = world_of c

  -- what has come is what was saved for the newest snapshot
  due_known : RecordIsDue st c.coordinator → (a : ℕ) → a < st.machines → (w.part a).known ≡ w.begun
  due_known due = all_known st w whole.consistent.marks (may_record st c due)

  due_saved : RecordIsDue st c.coordinator → (a : ℕ) → a < st.machines → ((snapshot_due c.coordinator).sections a).section ≡ (w.part a).saved
  due_saved due a low = come_section (c.coordinator.come a) (w.part a).saved (section_come st w whole.consistent.marks (may_record st c due) a low).2

  edge_saved : (due : RecordIsDue st c.coordinator) (a e x : ℕ) → a < st.machines → ((snapshot_due c.coordinator).sections a).section.edges e ≡ Some x → (w.part a).saved.edges e ≡ Some x
  edge_saved due a e x low its = ap (λ (s : Section). s.edges e) (sym (due_saved due a low)) ∙ its

  module _ (right : SavesRight st w) (due : RecordIsDue st c.coordinator) where
    due_once : (a b e x y : ℕ) → a < st.machines → b < st.machines → e < length st.graph.edges →
        ((snapshot_due c.coordinator).sections a).section.edges e ≡ Some x → ((snapshot_due c.coordinator).sections b).section.edges e ≡ Some y → a ≡ b
    due_once a b e x y low_a low_b within one other =
        right.once a b e x y low_a low_b within (due_known due a low_a ∙ sym (due_known due b low_b)) (edge_saved due a e x low_a one) (edge_saved due b e y low_b other)

    due_vertex : (a v x : ℕ) → a < st.machines → ((snapshot_due c.coordinator).sections a).section.vertices v ≡ Some x → v < size st.graph
    due_vertex a v x low its = right.vertices a v x (ap (λ (s : Section). s.vertices v) (sym (due_saved due a low)) ∙ its)

    due_edge : (a e x : ℕ) → a < st.machines → ((snapshot_due c.coordinator).sections a).section.edges e ≡ Some x → e < length st.graph.edges
    due_edge a e x low its = right.edges a e x (edge_saved due a e x low its)

  -- the updates that the snapshot brings are among those that are logged
  logged_each : (P : Entry → Type 0) (test : Logged → Bool) (logged : List Logged) → AllByRecursion P (all_entries logged) → AllByRecursion P (passing test logged)
  logged_each P test [] all = tt
  logged_each P test (l ∷ logged) all =
      ⊎_elim
      (λ (yes_in : test l ≡ true). subst (AllByRecursion P) (sym (passing-cons_in test l logged yes_in)) (all.0, logged_each P test logged all.1))
      (λ (out : test l ≡ false). subst (AllByRecursion P) (sym (passing-cons_out test l logged out)) (logged_each P test logged all.1))
      (cases_Bool (test l))

  low_down : (n m : ℕ) → suc n ≤ m → n ≤ m
  low_down n m low = omega arith

  module _ (logged : List Logged) (account : IsAccounted st c whole logged) where
    drawn : AllByRecursion (λ entry. ticket_of entry < c.next) (all_entries logged)
    drawn = subst (AllByRecursion (λ entry. ticket_of entry < c.next)) account.order.order whole.consistent.replay.tickets

    -- what holds of the logged updates holds of those that the snapshot brings
    due_each : (P : Entry → Type 0) → AllByRecursion P (all_entries logged) → RecordIsDue st c.coordinator → (n : ℕ) → n ≤ st.machines → AllByRecursion P (entries_below n (snapshot_due c.coordinator))
    due_each P all due zero low = tt
    due_each P all due (suc a) low =
        each-append P (entries_below a (snapshot_due c.coordinator)) ((snapshot_due c.coordinator).sections a).entries (due_each P all due a (low_down a st.machines low))
        (subst (AllByRecursion P) (sym (due_updates st is c whole logged account.records account.sections due a low)) (logged_each P (is_first_in a c.coordinator.begun) logged all))

-- ---- orders by ticket

suc_low : (n k : ℕ) → suc n ≤ k → n ≤ k
suc_low n k low = omega arith

-- an order by ticket has no higher one than the next
stand_below : (low high : ℕ) (order : List Entry) → StandByTicket low order high → (low ≤ high) × AllByRecursion (λ entry. ticket_of entry ≤ high) order
stand_below low high [] stands = (stands, tt)
stand_below low high (Go machine vertex ticket ∷ order) stands =
    let rest = stand_below (suc ticket) high order stands.1 in
    let here : ticket ≤ high = suc_low ticket high rest.0 in
    (le_trans stands.0 here, (here, rest.1))
stand_below low high (Restart ticket ∷ order) stands =
    let rest = stand_below ticket high order stands.1 in
    (le_trans stands.0 rest.0, (rest.0, rest.1))

-- ---- the course of a call

all_tickets : (next before made left first budget : ℕ) → next ≡ before + made → made + left ≡ budget → first ≡ before → next + left ≡ first + budget
all_tickets next before made left first budget is spent same = omega arith

next_low : (next left total : ℕ) → next + left ≡ total → next ≤ total
next_low next left total is = omega arith

module _ (st : Setting) (failures : List FailureAt) (kept : List Entry) (resumed : Bool) (base : BaseView) (first : Cluster) (events : List Event) (c : Cluster)
    (trace : IsTraceOfCall st failures kept resumed base first events c) where
  abbrev now : Setting
  now = going_on st base.numbers base.number

  abbrev begun : Cluster
  begun = recovers st base first

  abbrev behind : Setting
  behind = setting_behind now events

  -- the setting where the events lead
  abbrev last : Setting
  last = since st behind.start behind.base

  at : IsInCall failures (opened_at kept resumed) now begun [] []
  at = opened_in st failures kept resumed base first trace.opened trace.is trace.coloured

  last_is : IsSetting last
  last_is = record { graph = trace.is.graph; owner = trace.is.owner }

  -- what is so there
  abbrev Leads : Setting → Type 0
  Leads s = (whole : IsWhole s c) × (logged : List Logged) × IsAccounted s c whole logged × IsBased s c logged

  ended : Leads last
  ended = subst Leads (behind_since events now) (traces_go events now at.is begun c at.whole [] trace.trace at.account at.based)

  saved_right : SavesRight last (world_of c)
  saved_right =
      subst (λ (s : Setting). SavesRight s (world_of c)) (behind_since events now)
      (traces_right events now at.is begun c at.whole [] at.account at.based trace.trace (begins_right st now base first))

  due_last : RecordIsDue st c.coordinator → RecordIsDue last c.coordinator
  due_last due = record { under = due.under; sections = due.sections }

  pub next_due : RecordIsDue st c.coordinator → c.coordinator.begun ≡ suc c.coordinator.acknowledged
  next_due due = next_number last last_is c ended.0 (due_last due)

  pub edges_once : RecordIsDue st c.coordinator → (a b e x y : ℕ) → a < st.machines → b < st.machines → e < length st.graph.edges →
      ((snapshot_due c.coordinator).sections a).section.edges e ≡ Some x → ((snapshot_due c.coordinator).sections b).section.edges e ≡ Some y → a ≡ b
  edges_once due = due_once last last_is c ended.0 saved_right (due_last due)

  pub vertices_inside : RecordIsDue st c.coordinator → (a v x : ℕ) → a < st.machines → ((snapshot_due c.coordinator).sections a).section.vertices v ≡ Some x → v < size st.graph
  vertices_inside due = due_vertex last last_is c ended.0 saved_right (due_last due)

  pub edges_inside : RecordIsDue st c.coordinator → (a e x : ℕ) → a < st.machines → ((snapshot_due c.coordinator).sections a).section.edges e ≡ Some x → e < length st.graph.edges
  edges_inside due = due_edge last last_is c ended.0 saved_right (due_last due)

  pub updates_owned : RecordIsDue st c.coordinator → AllByRecursion (IsOwnUpdate st) (entries_below st.machines (snapshot_due c.coordinator))
  updates_owned due =
      each-weaker (IsOwnUpdate last) (IsOwnUpdate st) own_so (entries_below st.machines (snapshot_due c.coordinator))
      (due_each last last_is c ended.0 ended.1 ended.2 (IsOwnUpdate last) (all_own last last_is ended.1 ended.2.since) (due_last due) st.machines (le_refl st.machines))
    where
      own_so : (entry : Entry) → IsOwnUpdate last entry → IsOwnUpdate st entry
      own_so (Go machine vertex ticket) own = own
      own_so (Restart ticket) own = own

  pub tickets_left : c.next + c.left ≡ first.next + first.left
  tickets_left =
      let call = the_call st failures kept resumed base first events c trace in
      let one : EngineCall = call.0 in
      let its : IsCallOf st failures kept resumed c one = call.1 in
      let tells : CallReport st first.left c one = call.5 in
      all_tickets c.next (first_ticket one) (length (made_of one)) c.left first.next first.left its.next tells.spent
      (trace.opened.next ∙ ap ticket_above (sym its.base))

  drawn_low : c.next ≤ first.next + first.left
  drawn_low = next_low c.next c.left (first.next + first.left) tickets_left

  pub updates_below : RecordIsDue st c.coordinator → AllByRecursion (λ entry. ticket_of entry < first.next + first.left) (entries_below st.machines (snapshot_due c.coordinator))
  updates_below due =
      each-weaker (λ (entry : Entry). ticket_of entry < c.next) (λ (entry : Entry). ticket_of entry < first.next + first.left)
      (λ entry less. lt_of_lt_of_le less drawn_low) (entries_below st.machines (snapshot_due c.coordinator))
      (due_each last last_is c ended.0 ended.1 ended.2 (λ entry. ticket_of entry < c.next) (drawn last last_is c ended.0 ended.1 ended.2) (due_last due) st.machines (le_refl st.machines))

  pub front_below : AllByRecursion (λ entry. ticket_of entry ≤ first.next + first.left) c.base.order
  front_below =
      each-weaker (λ (entry : Entry). ticket_of entry ≤ c.next) (λ (entry : Entry). ticket_of entry ≤ first.next + first.left)
      (λ entry low. le_trans low drawn_low) c.base.order
      (each-front (λ (entry : Entry). ticket_of entry ≤ c.next) c.base.order (all_entries ended.1) (stand_below 0 c.next (c.base.order ++ all_entries ended.1) ended.3.by_ticket).1)
