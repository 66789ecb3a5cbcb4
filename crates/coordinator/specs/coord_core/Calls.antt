-- What the coordinator's calls ask and leave: for every setting, and every coordinator of a cluster whose part this one is.
use Rattle.std.specs.List.Sorted.{IsPermutation}
use Rattle.std.specs.Prelude.{◌≡◌, ℕ, ◌<◌, ◌↔◌, true, false, suc, map, Option, Some, None, List, [], ◌∷◌, length, slice_index_or, ⊤}
use Rattle.std.specs.List.Sorted.{IsStrictlyIncreasing}
use Rattle.gl_base.specs.declared.snapshots.Record.{Record}
use Rattle.gl_base.specs.declared.snapshots.SavedPart.{SavedPart}
use Rattle.cluster_laws.specs.cluster_core.Messages.{Section}
use Rattle.cluster_laws.specs.cluster_model.Calls.{Count, Want}
use Rattle.cluster_laws.specs.cluster_model.Events as law
use Rattle.cluster_laws.specs.cluster_model.Leading.{RecordIsDue, Snapshot, SnapshotIsDue, come_or}
use Rattle.cluster_laws.specs.cluster_model.Rounds.{with_step}
use Rattle.graph_core.specs.DataGraph.{size}
use Rattle.coordinator.specs.snap_update.Holding.{AreSavedIn, IsSectionReport}
use Rattle.wire.specs.declared.wire_msgs.messages.Message.{Message}
use Rattle.wire.specs.wire_msgs.Views as wire
use Rattle.coordinator.specs.declared.coord_core.leading.Due.{Due}
use Rattle.coordinator.specs.declared.coord_core.leading.Due.TheVariants as due
use Rattle.coordinator.specs.declared.coord_core.steps.Engine.{Engine}
use Rattle.coordinator.specs.coord_core.Coordinators.{Call, Cluster, Coordinator, CoordinatorView, HasSeenTheEnd, IsCoordinatorOf, IsEngineOf, MayBeCounted, MessageView, Report, Setting, StoreView, TellsCall, acknowledges, begins_snapshot, first_coordinator, hands_call, message_view, no_outbox, puts_step, puts_wave, takes_report}
use Rattle.coordinator.specs.coord_core.Records.{AreByTicket}
use Rattle.coordinator.specs.coord_core.Saving.{HasRoomForRecord, IsApart, IsRecordDue}

-- it is the coordinator that an attempt with so many machines, this engine and this store begins with; or, without a store, one where no
-- snapshots are taken, whatever it goes back to
abbrev pub IsFirstWith : ℕ → Engine → Option StoreView → CoordinatorView → Type 0
IsFirstWith machines engine None view =
    (st : Setting) (base long : ℕ) → st.machines ≡ machines → IsEngineOf engine st.engine → st.stored ≡ false →
    IsCoordinatorOf st view (first_coordinator st base long)
IsFirstWith machines engine (Some store) view =
    (st : Setting) → st.machines ≡ machines → IsEngineOf engine st.engine → st.stored ≡ true → size st.graph ≡ store.vertices → length st.graph.edges ≡ store.edges →
    IsCoordinatorOf st view (first_coordinator st store.newest store.store_end)

-- whose part it was its part it is
abbrev pub StaysCoordinator : CoordinatorView → CoordinatorView → Type 0
StaysCoordinator old new = (st : Setting) (c : Coordinator) → IsCoordinatorOf st old c → IsCoordinatorOf st new c

-- ---- what is due

-- the waves have shown it that nothing is left
abbrev pub HasShownIt : CoordinatorView → Type 0
HasShownIt view = (st : Setting) (c : Coordinator) → IsCoordinatorOf st view c → HasSeenTheEnd c

-- no snapshot is due or under way, and the last two waves showed the end
abbrev pub EndIsDue : Setting → Coordinator → Type 0
EndIsDue st c = (SnapshotIsDue st c → ⊥) × (c.acknowledged ≡ c.begun) × HasSeenTheEnd c

-- A record is due exactly where all sections of the snapshot under way have come, and a snapshot exactly where the next one may begin.
-- Else the end is due exactly where no snapshot is under way and the last two waves showed it; else a step exactly where the next one
-- may begin, which has this colour; and else a wave exactly where one may be put out.
pub record IsDueOf (view : CoordinatorView) (answer : Due) : Type 0 where
  pub saved : (st : Setting) (c : Coordinator) (k : ℕ) → IsCoordinatorOf st view c → (answer ≡ due.Record k) ↔ (RecordIsDue st c × (k ≡ c.begun))
  pub snapshot : (st : Setting) (c : Coordinator) (k : ℕ) → IsCoordinatorOf st view c → (answer ≡ due.Snapshot k) ↔ (SnapshotIsDue st c × (k ≡ suc c.begun))
  pub ended : (st : Setting) (c : Coordinator) → IsCoordinatorOf st view c → (answer ≡ due.Ended) ↔ EndIsDue st c
  pub step : (st : Setting) (c : Cluster) (k : ℕ) → IsCoordinatorOf st view c.coordinator →
      (answer ≡ due.Step k) ↔ ((RecordIsDue st c.coordinator → ⊥) × (EndIsDue st c.coordinator → ⊥) × law.MayDo st c law.PutStep
      × (k ≡ (with_step st.engine c.coordinator.rounds).colour))
  pub wave : (st : Setting) (c : Cluster) → IsCoordinatorOf st view c.coordinator →
      (answer ≡ due.Wave) ↔ ((RecordIsDue st c.coordinator → ⊥) × (EndIsDue st c.coordinator → ⊥) × law.MayDo st c law.PutWave)

-- ---- an event of its own

-- it may happen
abbrev pub MayLead : law.Event → CoordinatorView → Type 0
MayLead event view = (st : Setting) (c : Cluster) → IsCoordinatorOf st view c.coordinator → law.MayDo st c event

-- it may not
abbrev pub MayNotLead : law.Event → CoordinatorView → Type 0
MayNotLead event view = (st : Setting) (c : Cluster) → IsCoordinatorOf st view c.coordinator → law.MayDo st c event → ⊥

-- a wave may be put out; and it was
abbrev pub MayPutWave : CoordinatorView → Type 0
MayPutWave view = MayLead law.PutWave view

abbrev pub MayNotPutWave : CoordinatorView → Type 0
MayNotPutWave view = MayNotLead law.PutWave view

abbrev pub HasPutWave : CoordinatorView → CoordinatorView → Type 0
HasPutWave old new = (st : Setting) (c : Coordinator) → IsCoordinatorOf st old c → IsCoordinatorOf st new (puts_wave c)

-- the next step may begin; and it has begun
abbrev pub MayPutStep : CoordinatorView → Type 0
MayPutStep view = MayLead law.PutStep view

abbrev pub MayNotPutStep : CoordinatorView → Type 0
MayNotPutStep view = MayNotLead law.PutStep view

abbrev pub HasPutStep : CoordinatorView → CoordinatorView → Type 0
HasPutStep old new = (st : Setting) (c : Coordinator) → IsCoordinatorOf st old c → IsCoordinatorOf st new (puts_step st c)

-- the next snapshot may begin; and it has begun
abbrev pub MayLeadBegin : CoordinatorView → Type 0
MayLeadBegin view = MayLead law.PutBegin view

abbrev pub MayNotBegin : CoordinatorView → Type 0
MayNotBegin view = MayNotLead law.PutBegin view

abbrev pub HasBegunNext : CoordinatorView → CoordinatorView → Type 0
HasBegunNext old new = (st : Setting) (c : Coordinator) → IsCoordinatorOf st old c → IsCoordinatorOf st new (begins_snapshot c)

-- the snapshot under way may be acknowledged; and it was
abbrev pub MayLeadRecord : CoordinatorView → Type 0
MayLeadRecord view = MayLead law.Record view

abbrev pub MayNotRecord : CoordinatorView → Type 0
MayNotRecord view = MayNotLead law.Record view

abbrev pub HasRecorded : CoordinatorView → CoordinatorView → Type 0
HasRecorded old new = (st : Setting) (c : Coordinator) → IsCoordinatorOf st old c → IsCoordinatorOf st new (acknowledges st c)

-- ---- a record

-- the part has the numbers of this section, each once, by vertex and by edge
pub record IsSavedPart (section : Section) (part : SavedPart) : Type 0 where
  pub saved : AreSavedIn section part.vertices.items part.edges.items
  pub by_vertex : IsStrictlyIncreasing (map (λ pair. pair.0.0) part.vertices.items)
  pub by_edge : IsStrictlyIncreasing (map (λ pair. pair.0.0) part.edges.items)

-- the snapshot under way, as the law acknowledges it
abbrev pub snapshot_come : Coordinator → Snapshot
snapshot_come c = record { number = c.begun; sections = λ a. come_or (c.come a) }

-- It is the record of this snapshot: of each machine the numbers that it saved, and the entries of all, by ticket.
pub record IsRecordFor (st : Setting) (snapshot : Snapshot) (made : Record) : Type 0 where
  pub number : made.number ≡ snapshot.number
  pub machines : length made.sections.items ≡ st.machines
  pub parts : (a : ℕ) (d : SavedPart) → a < st.machines → IsSavedPart (snapshot.sections a).section (slice_index_or made.sections.items a d)
  pub entries : IsPermutation (law.entries_below st.machines snapshot) made.entries.items
  pub by_ticket : AreByTicket made.entries.items

-- it is the record of the snapshot under way
abbrev pub IsRecordDueOf : CoordinatorView → Record → Type 0
IsRecordDueOf view made = (st : Setting) (c : Coordinator) → IsCoordinatorOf st view c → IsRecordFor st (snapshot_come c) made

-- the snapshot of this number may be acknowledged, and there is room for the word of that to each machine
pub record IsReadyToRecord (view : CoordinatorView) (k : ℕ) : Type 0 where
  pub number : k ≡ view.saving.begun
  pub due : IsRecordDue view.saving
  pub room : HasRoomForRecord view.saving
  pub out : (b : ℕ) → b < length view.out.machines → 0 < (slice_index_or view.out.machines b no_outbox).room

-- ---- a report

-- the message is this report
abbrev pub IsReport : MessageView → Report → Type 0
IsReport (wire.Count k counted) report = report ≡ Count k counted
IsReport (wire.Section section) report = IsSectionReport section report
IsReport (wire.Want k) report = report ≡ Want k
IsReport _ report = ⊥

-- the message of machine a may be received: it tells its counts of the newest wave, and these are missing; or it is its section, in
-- which no vertex and no edge stands twice; or it wants a snapshot
abbrev pub MayReport : CoordinatorView → ℕ → MessageView → Type 0
MayReport view a (wire.Count k counted) = MayBeCounted view.counting a k
MayReport view a (wire.Section section) = (a < length view.out.machines) × IsApart section
MayReport view a (wire.Want k) = ⊤
MayReport view a _ = ⊥

-- it was received
abbrev pub HasTakenReport : CoordinatorView → CoordinatorView → ℕ → MessageView → Type 0
HasTakenReport old new a m =
    (st : Setting) (c : Coordinator) (report : Report) → IsReport m report → IsCoordinatorOf st old c → IsCoordinatorOf st new (takes_report a report c)

-- ---- what is sent

-- the message is the first call for machine a, which goes away
pub record IsHandedOver (st : Setting) (new : CoordinatorView) (c : Coordinator) (a : ℕ) (m : MessageView) : Type 0 where
  pub call : Call
  pub behind : List Call
  pub first : c.out a ≡ call ∷ behind
  pub told : TellsCall m call
  pub rest : IsCoordinatorOf st new (hands_call a behind c)

-- a message for machine a was handed over; or none waits, and nothing has changed
abbrev pub HasHandedOver : CoordinatorView → CoordinatorView → ℕ → Option Message → Type 0
HasHandedOver old new a None = (new ≡ old) × ((st : Setting) (c : Coordinator) → IsCoordinatorOf st old c → a < st.machines → c.out a ≡ [])
HasHandedOver old new a (Some m) = (st : Setting) (c : Coordinator) → IsCoordinatorOf st old c → IsHandedOver st new c a (message_view m)
