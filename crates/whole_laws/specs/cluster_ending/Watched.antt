-- What the coordinator's waves keep of a cluster, with locks and with colours.
use Rattle.std.specs.Prelude.{All, Bool, List, None, Option, Some, [], false, if◌then◌else◌, length, pred, slice_index_or, true, ℕ, ⊤, ◌+◌, ◌<◌, ◌∷◌, ◌≡◌, ◌≤◌, ◌⊎◌}
use Rattle.gl_base.specs.declared.scopes.Counted.{Counted}
use Rattle.cluster_laws.specs.cluster_core.Parts.{Part}
use Rattle.cluster_laws.specs.cluster_core.Settings.{Setting}
use Rattle.cluster_laws.specs.cluster_core.Worlds.{World, way}
use Rattle.cluster_laws.specs.cluster_core.Ways.{vertex_woken}
use Rattle.cluster_laws.specs.cluster_model.Calls.{Begin, Call, Committed, Step, Wave, begins_in}
use Rattle.cluster_laws.specs.cluster_model.Clusters.{Cluster, call_way, report_way}
use Rattle.cluster_laws.specs.cluster_model.Counting.{Counting}
use Rattle.cluster_laws.specs.cluster_model.Events.{Admit, Deliver, DeliverCall, DeliverReport, Event, Fail, Grant, Mark, PutBegin, PutStep, PutWave, Record, Recover, Section, Send, SendCall, SendReport, Stop, Update}
use Rattle.cluster_laws.specs.cluster_model.Machines.{Machine, count_of}
use Rattle.cluster_laws.specs.cluster_model.Totals.{total}
use Rattle.cluster_laws.specs.cluster_model.TwoWaves.{IsIdleAnswer, total_received, total_sent, turned}
use Rattle.whole_laws.specs.cluster_whole.Steps.{Holds, IsCalled, Tells, Told, Turn, calls_of, come_of, counts_in, held_of, is_told, reports_of, messages_between}
use Rattle.whole_laws.specs.cluster_whole.Views.{world_of}
use Rattle.graph_core.specs.DataGraph.{size}

-- ---- what is on the way to a machine

-- the waves among what the coordinator told
abbrev pub waves_in : List Call → List Call
waves_in [] = []
waves_in (Begin k ∷ calls) = waves_in calls
waves_in (Committed k ∷ calls) = waves_in calls
waves_in (Wave k ∷ calls) = Wave k ∷ waves_in calls
waves_in (Step colour ∷ calls) = waves_in calls

-- what it told behind the first wave
abbrev pub behind_wave : List Call → List Call
behind_wave [] = []
behind_wave (Begin k ∷ calls) = behind_wave calls
behind_wave (Committed k ∷ calls) = behind_wave calls
behind_wave (Wave k ∷ calls) = calls
behind_wave (Step colour ∷ calls) = behind_wave calls

-- what it told behind the newest wave, of which the machine is here
abbrev pub told_behind : Turn → List Call → List Call
told_behind IsCalled calls = behind_wave calls
told_behind Holds calls = calls
told_behind (Tells counts) calls = calls
told_behind (Told counts) calls = calls

-- ---- two waves

-- the counts of the wave before the newest one
abbrev pub last_counts : Counting → List (Option Counted)
last_counts c = if c.waiting then (turned c.waves).before else c.waves.before

-- All machines were idle, and as many messages had been received as sent.
pub record IsIdleWave (counts : List (Option Counted)) : Type 0 where
  pub idle : All IsIdleAnswer counts
  pub even : total_received counts ≡ total_sent counts

-- what a machine told in the newest wave, or what it would tell now
abbrev pub shown_in : Turn → Counted → Counted
shown_in IsCalled now = now
shown_in Holds now = now
shown_in (Tells counts) now = counts
shown_in (Told counts) now = counts

-- No number of the first is above that of the second.
pub record IsNotAbove (c d : Counted) : Type 0 where
  pub sent : c.sent ≤ d.sent
  pub received : c.received ≤ d.received
  pub updates : c.updates ≤ d.updates

-- it has sent or received a message in between
abbrev pub HasMoved : Counted → Counted → Type 0
HasMoved c d = (c.received < d.received) ⊎ (c.sent < d.sent)

-- ---- what is left

-- the machine has no task
abbrev pub HoldsNoTask : Setting → Part → Type 0
HoldsNoTask st part = (v : ℕ) → v < size st.graph → part.task v ≡ false

-- No machine has a task, and no message on its way between machines wakes a vertex.
pub record HasNoTaskLeft (st : Setting) (w : World) : Type 0 where
  pub tasks : (a : ℕ) → a < st.machines → HoldsNoTask st (w.part a)
  pub wakes : (p q u : ℕ) → p < st.machines → q < st.machines → u < size st.graph → vertex_woken u (way w p q) ≡ false

-- Each machine is idle, and no message is on its way between machines.
pub record HasSettled (st : Setting) (c : Cluster) : Type 0 where
  pub idle : (a : ℕ) → a < st.machines → (count_of st (c.machine a)).idle ≡ true
  pub silent : messages_between st (world_of c) ≡ 0

-- No task is left, and since these counts no update was made.
pub record IsDoneSince (st : Setting) (c : Cluster) (counts : List (Option Counted)) : Type 0 where
  pub left : HasNoTaskLeft st (world_of c)
  pub updates : (a : ℕ) (told : Counted) → a < st.machines → slice_index_or counts a None ≡ Some told → length (c.machine a).part.log ≡ told.updates

-- ---- what machines told

-- What is so of a machine since it told these counts, when so many snapshots had been begun.
pub record HasTold (st : Setting) (begun_then begun : ℕ) (counts : Counted) (m : Machine) : Type 0 where
  pub low : IsNotAbove counts (count_of st m)
  -- where it was idle and has received nothing since, it has no task and made no update
  pub untasked : counts.idle ≡ true → m.received ≡ counts.received → HoldsNoTask st m.part × (length m.part.log ≡ counts.updates)
  -- and where no snapshot was begun since, it is as it was
  pub resting : begun_then ≡ begun → counts.idle ≡ true → m.received ≡ counts.received → count_of st m ≡ counts

-- the same where it has answered the newest wave
abbrev pub HasAnswered : Setting → ℕ → ℕ → Turn → Machine → Type 0
HasAnswered st begun_then begun IsCalled m = ⊤
HasAnswered st begun_then begun Holds m = ⊤
HasAnswered st begun_then begun (Tells counts) m = HasTold st begun_then begun counts m
HasAnswered st begun_then begun (Told counts) m = HasTold st begun_then begun counts m

-- Where each machine is with the newest wave; and how many snapshots had been begun when the wave before was put out, and when the
-- newest one was.
pub record Watch : Type 0 where
  pub turn : ℕ → Turn
  pub begun_before : ℕ
  pub begun_newest : ℕ

-- what machine a shows in the newest wave
abbrev pub shown_by : Setting → Cluster → Watch → ℕ → Counted
shown_by st c watch a = shown_in (watch.turn a) (count_of st (c.machine a))

-- Machine a is here with the newest wave, where the coordinator has counted this and begun so many snapshots.
pub record IsTurnOf (st : Setting) (counting : Counting) (begun : ℕ) (c : Cluster) (watch : Watch) (a : ℕ) : Type 0 where
  -- the wave, and its counts, as they are on their way
  pub calls : waves_in (call_way c a) ≡ calls_of (pred counting.put_out) (watch.turn a)
  pub held : (c.machine a).held ≡ held_of (pred counting.put_out) (watch.turn a)
  pub reports : counts_in (report_way c a) ≡ reports_of (pred counting.put_out) (watch.turn a)
  -- what the coordinator has of it
  pub missing : counting.waiting ≡ true → slice_index_or (turned counting.waves).wave a None ≡ come_of (watch.turn a)
  pub come : counting.waiting ≡ false → 0 < counting.put_out → slice_index_or counting.waves.wave a None ≡ come_of (watch.turn a)
  -- what it told before is not above that, and that is not above its counts now
  pub later : (counts : Counted) → slice_index_or (last_counts counting) a None ≡ Some counts → IsNotAbove counts (shown_by st c watch a)
  pub told : HasAnswered st watch.begun_newest begun (watch.turn a) (c.machine a)
  -- a snapshot that it hasn't heard of was begun behind the wave before, and behind the newest wave where it has that
  pub begins : length (begins_in (call_way c a)) + watch.begun_before ≤ begun
  pub begins_newest : length (begins_in (told_behind (watch.turn a) (call_way c a))) + watch.begun_newest ≤ begun

-- a machine has sent or received a message between the wave before and the newest one, or until now where it hasn't answered that
abbrev pub SomeMoved : Setting → Counting → Cluster → Watch → Type 0
SomeMoved st counting c watch =
    (a : ℕ) × (counts : Counted) × (a < st.machines)
    × (slice_index_or (last_counts counting) a None ≡ Some counts)
    × HasMoved counts (shown_by st c watch a)

-- ---- all of it

-- The waves of a cluster are as they should be, where the coordinator has counted this and begun so many snapshots.
pub record AreWatched (st : Setting) (counting : Counting) (begun : ℕ) (c : Cluster) (watch : Watch) : Type 0 where
  pub machines : (a : ℕ) → a < st.machines → IsTurnOf st counting begun c watch a
  -- where no counts are missing all have come, and the next wave begins with none
  pub told : counting.waiting ≡ false → (a : ℕ) → a < st.machines → is_told (watch.turn a) ≡ true
  pub fresh : counting.waiting ≡ false → (a : ℕ) → a < st.machines → slice_index_or (turned counting.waves).wave a None ≡ None
  pub some : counting.waiting ≡ true → 0 < counting.put_out
  -- before the first wave nothing has come
  pub first : counting.put_out ≡ 0 → (a : ℕ) → a < st.machines →
      (slice_index_or counting.waves.wave a None ≡ None) × (slice_index_or counting.waves.before a None ≡ None)
  pub many : length counting.waves.wave ≡ st.machines
  pub many_before : length counting.waves.before ≡ st.machines
  pub numbers : (st.base ≤ watch.begun_before) × (watch.begun_before ≤ watch.begun_newest) × (watch.begun_newest ≤ begun)
  -- what was sent was received or is on its way
  pub balanced : total st.machines (λ a. (c.machine a).sent) ≡ total st.machines (λ a. (c.machine a).received) + messages_between st (world_of c)
  -- where the wave before was idle, no task is left, or a machine has moved since; and where besides no snapshot was begun since,
  -- all is at rest, or a machine has moved
  pub after_idle : IsIdleWave (last_counts counting) → IsDoneSince st c (last_counts counting) ⊎ SomeMoved st counting c watch
  pub at_rest : watch.begun_before ≡ begun → IsIdleWave (last_counts counting) → HasSettled st c ⊎ SomeMoved st counting c watch

-- the same, of what the coordinator has counted and begun
abbrev pub IsWatched : Setting → Cluster → Watch → Type 0
IsWatched st c watch = AreWatched st c.coordinator.rounds.counting c.coordinator.begun c watch

-- ---- what events do

-- the event puts a wave out
abbrev pub puts_wave_out : Event → Bool
puts_wave_out (Admit a v) = false
puts_wave_out (Grant a x) = false
puts_wave_out (Send p q) = false
puts_wave_out (SendCall a) = false
puts_wave_out (SendReport a) = false
puts_wave_out (Deliver p q) = false
puts_wave_out (DeliverCall a) = false
puts_wave_out (DeliverReport a) = false
puts_wave_out (Update s) = false
puts_wave_out (Mark s) = false
puts_wave_out (Section a) = false
puts_wave_out Record = false
puts_wave_out PutBegin = false
puts_wave_out PutStep = false
puts_wave_out PutWave = true
puts_wave_out (Fail a) = false
puts_wave_out (Recover base) = false
puts_wave_out Stop = false
