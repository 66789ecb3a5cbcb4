-- What waves and colour steps keep of a cluster whose vertices run by colours.
use Rattle.std.specs.List.{AllByRecursion}
use Rattle.std.specs.Prelude.{Bool, List, None, Option, Some, [], false, if◌then◌else◌, length, pred, slice_index_or, true, ℕ, ⊤, ◌++◌, ◌+◌, ◌<◌, ◌∷◌, ◌≡◌, ◌≤◌}
use Rattle.gl_base.specs.declared.scopes.Counted.{Counted}
use Rattle.gl_base.specs.declared.scopes.ScopeId.{ScopeId}
use Rattle.cluster_laws.specs.cluster_core.Messages.{Ask, Done, Message, News, Ready}
use Rattle.cluster_laws.specs.cluster_core.Scopes.{takes_part}
use Rattle.cluster_laws.specs.cluster_core.Settings.{Setting}
use Rattle.cluster_laws.specs.cluster_core.Worlds.{World, way}
use Rattle.cluster_laws.specs.cluster_model.Calls.{Begin, Call, Committed, Count, Report, Saved, Step, Want, Wave}
use Rattle.cluster_laws.specs.cluster_model.Clusters.{Cluster, call_way, report_way}
use Rattle.cluster_laws.specs.cluster_model.Machines.{Machine}
use Rattle.cluster_laws.specs.cluster_model.Rounds.{Rounds}
use Rattle.cluster_laws.specs.cluster_model.Totals.{total}
use Rattle.cluster_laws.specs.cluster_model.TwoWaves.{turned}
use Rattle.cluster_laws.specs.cluster_places.Steps.{IsInStep}
use Rattle.whole_laws.specs.cluster_whole.Views.{world_of}
use Rattle.graph_core.specs.DataGraph.{size}

-- the steps and waves among what the coordinator told
abbrev pub rounds_in : List Call → List Call
rounds_in [] = []
rounds_in (Begin k ∷ calls) = rounds_in calls
rounds_in (Committed k ∷ calls) = rounds_in calls
rounds_in (Wave k ∷ calls) = Wave k ∷ rounds_in calls
rounds_in (Step colour ∷ calls) = Step colour ∷ rounds_in calls

-- the counts among what a machine told
abbrev pub counts_in : List Report → List Report
counts_in [] = []
counts_in (Saved k section entries ∷ reports) = counts_in reports
counts_in (Count k counts ∷ reports) = Count k counts ∷ counts_in reports
counts_in (Want k ∷ reports) = counts_in reports

-- how many messages are on their way from one machine to another
abbrev pub messages_between : Setting → World → ℕ
messages_between st w = total st.machines (λ p. total st.machines (λ q. length (way w p q)))

-- ---- where a machine is with the newest wave

-- it is on its way to the machine, the machine holds it, its counts are on their way, or have come
pub data Turn : Type 0 where
  IsCalled : Turn
  Holds : Turn
  Tells : (counts : Counted) → Turn
  Told : (counts : Counted) → Turn

-- the wave on its way
abbrev pub calls_of : ℕ → Turn → List Call
calls_of k IsCalled = Wave k ∷ []
calls_of k Holds = []
calls_of k (Tells counts) = []
calls_of k (Told counts) = []

-- the wave that it holds
abbrev pub held_of : ℕ → Turn → Option ℕ
held_of k IsCalled = None
held_of k Holds = Some k
held_of k (Tells counts) = None
held_of k (Told counts) = None

-- the counts on their way
abbrev pub reports_of : ℕ → Turn → List Report
reports_of k IsCalled = []
reports_of k Holds = []
reports_of k (Tells counts) = Count k counts ∷ []
reports_of k (Told counts) = []

-- the counts that have come
abbrev pub come_of : Turn → Option Counted
come_of IsCalled = None
come_of Holds = None
come_of (Tells counts) = None
come_of (Told counts) = Some counts

-- they have come
abbrev pub is_told : Turn → Bool
is_told IsCalled = false
is_told Holds = false
is_told (Tells counts) = false
is_told (Told counts) = true

-- the wave has come to the machine
abbrev pub has_come : Turn → Bool
has_come IsCalled = false
has_come Holds = true
has_come (Tells counts) = true
has_come (Told counts) = true

-- a machine that has told its counts admits nothing more, sends nothing more, and receives no less
abbrev pub StaysShut : Machine → Turn → Type 0
StaysShut m IsCalled = ⊤
StaysShut m Holds = ⊤
StaysShut m (Tells counts) = (m.part.closed ≡ true) × (m.sent ≡ counts.sent) × (counts.received ≤ m.received)
StaysShut m (Told counts) = (m.part.closed ≡ true) × (m.sent ≡ counts.sent) × (counts.received ≤ m.received)

-- the step that it has not made yet
abbrev pub step_of : Bool → ℕ → List Call
step_of made colour = if made then [] else Step colour ∷ []

-- Machine a has made the newest step or not, and is here with the newest wave.
pub record IsAt (rounds : Rounds) (c : Cluster) (a : ℕ) (made : Bool) (turn : Turn) : Type 0 where
  -- the step that it hasn't made is on its way, and behind it the wave
  pub calls : rounds_in (call_way c a) ≡ step_of made rounds.colour ++ calls_of (pred rounds.counting.put_out) turn
  pub held : (c.machine a).held ≡ held_of (pred rounds.counting.put_out) turn
  pub reports : counts_in (report_way c a) ≡ reports_of (pred rounds.counting.put_out) turn
  -- what the coordinator has of it
  pub missing : rounds.counting.waiting ≡ true → slice_index_or (turned rounds.counting.waves).wave a None ≡ come_of turn
  pub come : rounds.counting.waiting ≡ false → 0 < rounds.counting.put_out → slice_index_or rounds.counting.waves.wave a None ≡ come_of turn
  -- until it makes the newest step it admits nothing
  pub behind : made ≡ false → (c.machine a).part.closed ≡ true
  pub first : rounds.steps ≡ 0 → made ≡ true
  -- a wave behind the newest step comes when the step was made, and then the machine stays shut
  pub in_turn : 0 < rounds.since → has_come turn ≡ true → made ≡ true
  pub shut : 0 < rounds.since → StaysShut (c.machine a) turn

-- ---- what is on the way between machines

-- Word of an update comes from machine p, by a scope of its own, to a machine that takes part in the scope, once a step was begun.
pub record IsWordBetween (st : Setting) (steps p q : ℕ) (s : ScopeId) (news : News) : Type 0 where
  pub within : (p < st.machines) × (q < st.machines) × (0 < steps)
  pub home : s.home.0 ≡ p
  pub vertex : news.centre < size st.graph
  pub part_of : takes_part st news.centre q ≡ true

-- with colours there is no other message
abbrev pub ComesBetween : Setting → ℕ → ℕ → ℕ → Message → Type 0
ComesBetween st steps p q (Ask s v rest) = ⊥
ComesBetween st steps p q (Ready s) = ⊥
ComesBetween st steps p q (Done s news) = IsWordBetween st steps p q s news

-- ---- all of it

-- The cluster is in the step of the newest colour, and machines and coordinator are where the newest step and wave have them.
pub record AreInTurn (st : Setting) (colour : ℕ → ℕ) (rounds : Rounds) (c : Cluster) : Type 0 where
  pub made : ℕ → Bool
  pub turn : ℕ → Turn
  pub machines : (a : ℕ) → a < st.machines → IsAt rounds c a (made a) (turn a)
  -- where no counts are missing all have come
  pub told : rounds.counting.waiting ≡ false → (a : ℕ) → a < st.machines → is_told (turn a) ≡ true
  -- and the next wave begins with none
  pub fresh : rounds.counting.waiting ≡ false → (a : ℕ) → a < st.machines → slice_index_or (turned rounds.counting.waves).wave a None ≡ None
  pub some : rounds.counting.waiting ≡ true → 0 < rounds.counting.put_out
  pub many : length rounds.counting.waves.wave ≡ st.machines
  pub since : rounds.since ≤ rounds.counting.put_out
  -- before the first step all machines are closed
  pub first : rounds.steps ≡ 0 → (a : ℕ) → (c.machine a).part.closed ≡ true
  pub others : (a : ℕ) → st.machines ≤ a → (c.machine a).part.closed ≡ true
  pub step : IsInStep st colour rounds.colour (world_of c)
  -- a closed machine has no scope in flight
  pub closed : (s : ScopeId) → (c.machine s.home.0).part.closed ≡ true → (c.machine s.home.0).part.flight s ≡ None
  -- nobody waits for a lock
  pub queues : (a x : ℕ) → (c.machine a).part.queue x ≡ []
  pub between : (p q : ℕ) → AllByRecursion (ComesBetween st rounds.steps p q) (way (world_of c) p q)
  -- what was sent was received or is on its way
  pub balanced : total st.machines (λ a. (c.machine a).sent) ≡ total st.machines (λ a. (c.machine a).received) + messages_between st (world_of c)
