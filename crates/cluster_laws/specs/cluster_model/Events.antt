-- The events of a cluster: when each may happen, and what it does.
use Rattle.std.specs.List.Sorted.{IsPermutation}
use Rattle.std.specs.Prelude.{List, None, Option, Some, [], false, if◌then◌else◌, is_some, pred, suc, true, zero, ℕ, ⊤, ◌*◌, ◌++◌, ◌+◌, ◌<◌, ◌∷◌, ◌≡◌, ◌⊎◌}
use Rattle.gl_base.specs.declared.entries.Entry.{Entry}
use Rattle.gl_base.specs.declared.entries.Entry.TheVariants.{Go}
use Rattle.gl_base.specs.declared.scopes.ScopeId.{ScopeId}
use Rattle.cluster_laws.specs.cluster_core.Actions.{HasFirst, MayAdmit, MayGrant, MayMark, MaySend, MayUpdate}
use Rattle.cluster_laws.specs.cluster_core.Messages.{Message}
use Rattle.cluster_laws.specs.cluster_core.Ranges.{first_passing}
use Rattle.cluster_laws.specs.cluster_core.Settings.{Setting}
use Rattle.cluster_laws.specs.cluster_model.ByTicket.{StandByTicket, restarts}
use Rattle.cluster_laws.specs.cluster_model.Calls.{Call, Report}
use Rattle.cluster_laws.specs.cluster_model.Clusters.{BaseView, Cluster, with_calls, with_coordinator, with_messages, with_machine, with_reports}
use Rattle.cluster_laws.specs.cluster_model.Leading.{HasStoreRoom, RecordIsDue, Snapshot, SnapshotIsDue, WaveIsDue, begins_snapshot, first_coordinator, hands_call, takes_report, puts_step, puts_wave, acknowledges}
use Rattle.cluster_laws.specs.cluster_model.Machines.{Machine}
use Rattle.cluster_laws.specs.cluster_model.Rounds.{StepIsDue}
use Rattle.cluster_laws.specs.cluster_model.Totals.{total}
use Rattle.cluster_laws.specs.cluster_model.Working.{or_zero, admits, fails, goes_back, grants, hands, has_room, takes_call, makes_mark, prompt, receives, sections, hands_report, makes_update}
use Rattle.seq_run.specs.States.{GraphState}

-- what may happen in a cluster
pub data Event : Type 0 where
  -- a machine admits a scope of one of its vertices
  Admit : (machine : ℕ) → (vertex : ℕ) → Event
  -- the first request in the queue of a machine's vertex is granted
  Grant : (machine : ℕ) → (vertex : ℕ) → Event
  -- a message goes from an outbox to a link: between machines, from the coordinator, to the coordinator
  Send : (from : ℕ) → (to : ℕ) → Event
  SendCall : (machine : ℕ) → Event
  SendReport : (machine : ℕ) → Event
  -- the first message of a link is received
  Deliver : (from : ℕ) → (to : ℕ) → Event
  DeliverCall : (machine : ℕ) → Event
  DeliverReport : (machine : ℕ) → Event
  -- the update of a scope is made, or its snapshot update
  Update : (scope : ScopeId) → Event
  Mark : (scope : ScopeId) → Event
  -- a machine puts its section out
  Section : (machine : ℕ) → Event
  -- the snapshot under way is acknowledged
  Record : Event
  -- the coordinator begins a snapshot, the next step, or a wave
  PutBegin : Event
  PutStep : Event
  PutWave : Event
  -- a machine fails; all go back; the run has ended
  Fail : (machine : ℕ) → Event
  Recover : (base : BaseView) → Event
  Stop : Event

-- ---- when each may happen

-- something is first
pub record HasNext {X : Type 0} (messages : List X) : Type 0 where
  pub message : X
  pub behind : List X
  pub first : messages ≡ message ∷ behind

-- it is a machine of the cluster, and hasn't failed
pub record IsAwake (st : Setting) (c : Cluster) (a : ℕ) : Type 0 where
  pub machine : a < st.machines
  pub runs : (c.machine a).failed ≡ false

-- the vertex may have a scope, and where it isn't pending the window has room
pub record MayAdmitNow (st : Setting) (a v : ℕ) (m : Machine) : Type 0 where
  pub may : MayAdmit st a v m.part
  pub room : (m.part.pending v ≡ true) ⊎ (has_room st m ≡ true)

-- ---- where a recovery goes back to

-- the first section that has edge e
abbrev pub edge_in : Setting → Snapshot → ℕ → ℕ
edge_in st snapshot e =
    or_zero ((snapshot.sections (or_zero (first_passing (λ a. is_some ((snapshot.sections a).section.edges e)) 0 st.machines))).section.edges e)

-- the numbers of a snapshot
abbrev pub snapshot_numbers : Setting → Snapshot → GraphState
snapshot_numbers st snapshot =
    record { vertex = λ v. or_zero ((snapshot.sections (st.owner v)).section.vertices v); edge = edge_in st snapshot }

-- the numbers of the last of these snapshots, and others where there is none
abbrev pub newest_of : Setting → List Snapshot → GraphState → GraphState
newest_of st [] numbers = numbers
newest_of st (snapshot ∷ snapshots) numbers = newest_of st snapshots (snapshot_numbers st snapshot)

-- the entries of the first so many machines in a snapshot, and of these snapshots
abbrev pub entries_below : ℕ → Snapshot → List Entry
entries_below zero snapshot = []
entries_below (suc a) snapshot = entries_below a snapshot ++ (snapshot.sections a).entries

-- the entries of these snapshots
abbrev pub entries_in_all : Setting → List Snapshot → List Entry
entries_in_all st [] = []
entries_in_all st (snapshot ∷ snapshots) = entries_below st.machines snapshot ++ entries_in_all st snapshots

-- how many machines have failed
abbrev pub failures_in : Setting → Cluster → ℕ
failures_in st c = total st.machines (λ a. if (c.machine a).failed then 1 else 0)

-- The base of the next attempt: the number and the numbers of the newest snapshot; and its order, which is that of the base
-- with the entries of the snapshots since, by ticket, and behind it a Restart for each failure.
pub record GoesBackTo (st : Setting) (c : Cluster) (base : BaseView) : Type 0 where
  pub failed : 0 < failures_in st c
  pub number : base.number ≡ c.coordinator.acknowledged
  pub numbers : base.numbers ≡ newest_of st c.coordinator.snapshots c.base.numbers
  pub kept : List Entry
  pub order : base.order ≡ kept ++ restarts (failures_in st c) c.next
  pub same : IsPermutation (c.base.order ++ entries_in_all st c.coordinator.snapshots) kept
  pub by_ticket : StandByTicket 0 kept c.next

-- the guard of each event: who acts looks at itself alone, and at the link or tickets that it uses
abbrev pub MayDo : Setting → Cluster → Event → Type 0
MayDo st c (Admit a v) = IsAwake st c a × MayAdmitNow st a v (c.machine a)
MayDo st c (Grant a x) = IsAwake st c a × MayGrant st a x (c.machine a).part
MayDo st c (Send p q) = IsAwake st c p × (q < st.machines) × HasFirst ((c.machine p).part.out q)
MayDo st c (SendCall a) = (a < st.machines) × HasNext (c.coordinator.out a)
MayDo st c (SendReport a) = IsAwake st c a × HasNext (c.machine a).out
MayDo st c (Deliver p q) = IsAwake st c q × (p < st.machines) × HasFirst (c.link p q)
MayDo st c (DeliverCall a) = IsAwake st c a × HasNext (c.calls a)
MayDo st c (DeliverReport a) = (a < st.machines) × HasNext (c.reports a)
MayDo st c (Update s) = IsAwake st c s.home.0 × MayUpdate s (c.machine s.home.0).part c.left
MayDo st c (Mark s) = IsAwake st c s.home.0 × MayMark s (c.machine s.home.0).part
MayDo st c (Section a) = IsAwake st c a × MaySend st a (c.machine a).part
MayDo st c Record = RecordIsDue st c.coordinator × HasStoreRoom st c.coordinator
MayDo st c PutBegin = SnapshotIsDue st c.coordinator
MayDo st c PutStep = (SnapshotIsDue st c.coordinator → ⊥) × StepIsDue st.engine c.coordinator.rounds
MayDo st c PutWave = (SnapshotIsDue st c.coordinator → ⊥) × (StepIsDue st.engine c.coordinator.rounds → ⊥) × WaveIsDue st c.coordinator
MayDo st c (Fail a) = IsAwake st c a
MayDo st c (Recover base) = GoesBackTo st c base
MayDo st c Stop = ⊤

-- nothing happens after the end
abbrev pub MayOccur : Setting → Cluster → Event → Type 0
MayOccur st c event = (c.stopped ≡ false) × MayDo st c event

-- ---- what each does: at most one machine or the coordinator changes, and one link

-- the first message of the outbox goes to the end of the link
abbrev pub sends_message : Cluster → ℕ → ℕ → List Message → Cluster
sends_message c p q [] = c
sends_message c p q (m ∷ behind) = with_messages (with_machine c p (hands q behind (c.machine p))) p q (c.link p q ++ m ∷ [])

-- and so does the first call
abbrev pub sends_call : Cluster → ℕ → List Call → Cluster
sends_call c a [] = c
sends_call c a (call ∷ behind) = with_calls (with_coordinator c (hands_call a behind c.coordinator)) a (c.calls a ++ call ∷ [])

-- and the first report
abbrev pub sends_report : Cluster → ℕ → List Report → Cluster
sends_report c a [] = c
sends_report c a (report ∷ behind) = with_reports (with_machine c a (hands_report behind (c.machine a))) a (c.reports a ++ report ∷ [])

-- the first message of the link is received
abbrev pub delivers_message : Setting → Cluster → ℕ → ℕ → List Message → Cluster
delivers_message st c p q [] = c
delivers_message st c p q (m ∷ behind) = with_messages (with_machine c q (prompt st q (receives st q m (c.machine q)))) p q behind

-- and so is the first call
abbrev pub delivers_call : Setting → Cluster → ℕ → List Call → Cluster
delivers_call st c a [] = c
delivers_call st c a (call ∷ behind) = with_calls (with_machine c a (prompt st a (takes_call st a call (c.machine a)))) a behind

-- and the first report
abbrev pub delivers_report : Cluster → ℕ → List Report → Cluster
delivers_report c a [] = c
delivers_report c a (report ∷ behind) = with_reports (with_coordinator c (takes_report a report c.coordinator)) a behind

-- the next ticket is drawn
abbrev pub draws_ticket : Cluster → Cluster
draws_ticket c = record c { next = suc c.next; left = pred c.left }

-- the home of the scope makes the update of this centre, under the next ticket
abbrev pub makes : Setting → Cluster → ScopeId → Option ℕ → Cluster
makes st c s None = c
makes st c s (Some v) =
    draws_ticket (with_machine c s.home.0 (prompt st s.home.0 (makes_update st s.home.0 s v (Go s.home (record { 0 = v }) c.next) (c.machine s.home.0))))

-- the home of the scope makes the snapshot update of this centre
abbrev pub saves : Setting → Cluster → ScopeId → Option ℕ → Cluster
saves st c s None = c
saves st c s (Some v) = with_machine c s.home.0 (prompt st s.home.0 (makes_mark st s.home.0 s v (c.machine s.home.0)))

-- All machines go back to the base, the links are empty, and tickets go on. The next record brings a restart for each failure, so place for these
-- is kept in the store.
abbrev pub recovers : Setting → BaseView → Cluster → Cluster
recovers st base c =
    record {
      machine = λ a. goes_back st base.numbers base.number a (c.machine a);
      link = λ p q. [];
      calls = λ a. [];
      reports = λ a. [];
      coordinator = first_coordinator st base.number (c.coordinator.store_end + 16 * failures_in st c);
      next = c.next;
      left = c.left;
      base = base;
      stopped = false;
    }

-- the effect of each event
abbrev pub after_event : Setting → Cluster → Event → Cluster
after_event st c (Admit a v) = with_machine c a (prompt st a (admits st a v (c.machine a)))
after_event st c (Grant a x) = with_machine c a (prompt st a (grants st a x (c.machine a)))
after_event st c (Send p q) = sends_message c p q ((c.machine p).part.out q)
after_event st c (SendCall a) = sends_call c a (c.coordinator.out a)
after_event st c (SendReport a) = sends_report c a (c.machine a).out
after_event st c (Deliver p q) = delivers_message st c p q (c.link p q)
after_event st c (DeliverCall a) = delivers_call st c a (c.calls a)
after_event st c (DeliverReport a) = delivers_report c a (c.reports a)
after_event st c (Update s) = makes st c s ((c.machine s.home.0).part.flight s)
after_event st c (Mark s) = saves st c s ((c.machine s.home.0).part.flight s)
after_event st c (Section a) = with_machine c a (prompt st a (sections (c.machine a)))
after_event st c Record = with_coordinator c (acknowledges st c.coordinator)
after_event st c PutBegin = with_coordinator c (begins_snapshot c.coordinator)
after_event st c PutStep = with_coordinator c (puts_step st c.coordinator)
after_event st c PutWave = with_coordinator c (puts_wave c.coordinator)
after_event st c (Fail a) = with_machine c a (fails (c.machine a))
after_event st c (Recover base) = recovers st base c
after_event st c Stop = record c { stopped = true }

-- the setting of what follows: a recovery begins an attempt with its base
abbrev pub setting_after : Setting → Event → Setting
setting_after st (Recover base) = record st { start = base.numbers; base = base.number }
setting_after st (Admit a v) = st
setting_after st (Grant a x) = st
setting_after st (Send p q) = st
setting_after st (SendCall a) = st
setting_after st (SendReport a) = st
setting_after st (Deliver p q) = st
setting_after st (DeliverCall a) = st
setting_after st (DeliverReport a) = st
setting_after st (Update s) = st
setting_after st (Mark s) = st
setting_after st (Section a) = st
setting_after st Record = st
setting_after st PutBegin = st
setting_after st PutStep = st
setting_after st PutWave = st
setting_after st (Fail a) = st
setting_after st Stop = st

-- these events, one after another, lead from one cluster to another
abbrev pub IsTrace : Setting → Cluster → List Event → Cluster → Type 0
IsTrace st old [] new = new ≡ old
IsTrace st old (event ∷ events) new = MayOccur st old event × IsTrace (setting_after st event) (after_event st old event) events new
