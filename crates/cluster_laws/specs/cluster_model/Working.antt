-- What each event makes of the machine at which it happens.
use Rattle.std.specs.Prelude.{Bool, List, None, Option, Some, [], false, if◌then◌else◌, is_none, is_some, length, nat_le, nat_lt, not, pred, suc, true, ℕ, ◌&&◌, ◌++◌, ◌+◌, ◌/◌, ◌==◌, ◌||◌, ◌∷◌}
use Rattle.gl_base.specs.declared.entries.Entry.{Entry}
use Rattle.gl_base.specs.declared.scopes.ScopeId.{ScopeId}
use Rattle.cluster_laws.specs.cluster_core.Effects.{admitted, begins, granted, marked, next_scope, received, steps_to, updated}
use Rattle.cluster_laws.specs.cluster_core.Messages.{Ask, Done, Message, Ready}
use Rattle.cluster_laws.specs.cluster_core.Ranges.{first_passing, set_at}
use Rattle.cluster_laws.specs.cluster_core.Recovering.{begun_again}
use Rattle.cluster_laws.specs.cluster_core.Scopes.{set_for}
use Rattle.cluster_laws.specs.cluster_core.Settings.{Chromatic, Engine, Locking, Setting}
use Rattle.cluster_laws.specs.cluster_model.Calls.{Begin, Call, Committed, Count, Report, Saved, Step, Want, Wave}
use Rattle.cluster_laws.specs.cluster_model.Machines.{Machine, count_of, gained, outside}
use Rattle.graph_core.specs.DataGraph.{size}
use Rattle.seq_run.specs.States.{GraphState}

-- ---- small things

-- the number, and 0 where there is none
abbrev pub or_zero : Option ℕ → ℕ
or_zero None = 0
or_zero (Some k) = k

-- the list without its first
abbrev pub rest_of : {X : Type 0} → List X → List X
rest_of [] = []
rest_of (x ∷ xs) = xs

-- ---- the window

-- half of the window, rounded up
abbrev pub half_window : Setting → ℕ
half_window st = (st.window + 1) / 2

-- where at least half of the window is outside the last snapshot that it knows of, it asks for the next one, once
abbrev pub asks_more : Setting → Machine → Bool
asks_more st m = st.stored && not m.wanted && nat_le (half_window st) (outside m)

-- it asks where the test passes
abbrev pub asks_if : Bool → Machine → Machine
asks_if test m =
    record m {
      wanted = m.wanted || test;
      out = if test then m.out ++ Want m.acknowledged ∷ [] else m.out;
    }

-- it asks for the next snapshot where it has to
abbrev pub asks : Setting → Machine → Machine
asks st m = asks_if (asks_more st m) m

-- there is room for one update more
abbrev pub has_room : Setting → Machine → Bool
has_room st m = not st.stored || nat_lt (outside m + m.plans) st.window

-- ---- answering a wave

-- the vertex may be admitted in this step, as no scope is in flight
abbrev pub is_offered : Setting → (ℕ → ℕ) → ℕ → Machine → ℕ → Bool
is_offered st colour a m v =
    st.owner v == a && colour v == m.part.colour && (m.part.pending v || (m.part.task v && has_room st m))

-- with locks a machine answers at once; with colours when its share of the step is done, or was when it last answered
abbrev pub is_done : Engine → Setting → ℕ → Machine → Bool
is_done Locking st a m = true
is_done (Chromatic colour colours) st a m =
    m.part.closed || (m.part.flying == 0 && is_none (first_passing (is_offered st colour a m) 0 (size st.graph)))

-- it answers the wave that it holds where the test passes, and admits nothing more in this step
abbrev pub answers_if : Setting → Bool → Machine → Machine
answers_if st test m =
    record m {
      part = record m.part { closed = m.part.closed || test };
      held = if test then None else m.held;
      out = if test then m.out ++ Count (or_zero m.held) (count_of st m) ∷ [] else m.out;
    }

-- a machine that holds a wave answers it as soon as it may
abbrev pub prompt : Setting → ℕ → Machine → Machine
prompt st a m = answers_if st (is_some m.held && is_done st.engine st a m) m

-- ---- the events of a machine

-- machine a admits a scope of v: for a snapshot update where v is pending
abbrev pub admits : Setting → ℕ → ℕ → Machine → Machine
admits st a v m =
    let part = admitted st a v m.part in
    record m {
      part = part;
      sent = m.sent + gained st m.part part;
      planned = set_for m.planned (next_scope a m.part) (not (m.part.pending v));
      plans = if m.part.pending v then m.plans else suc m.plans;
    }

-- machine a grants the lock of x to the first that waits for it
abbrev pub grants : Setting → ℕ → ℕ → Machine → Machine
grants st a x m = let part = granted st a x m.part in record m { part = part; sent = m.sent + gained st m.part part }

-- the snapshot of which a message tells
abbrev pub snapshot_in : Message → ℕ
snapshot_in (Ask s v rest) = 0
snapshot_in (Ready s) = 0
snapshot_in (Done s news) = news.number

-- where a new snapshot begins, no vertex is marked, so all entries are before the marks
abbrev pub before_at : ℕ → Machine → List Entry
before_at k m = if nat_lt m.part.known k then m.before ++ m.behind else m.before

-- and none is behind them
abbrev pub behind_at : ℕ → Machine → List Entry
behind_at k m = if nat_lt m.part.known k then [] else m.behind

-- machine a receives a message of a machine
abbrev pub receives : Setting → ℕ → Message → Machine → Machine
receives st a message m =
    let part = received st a message m.part in
    record m {
      part = part;
      sent = m.sent + gained st m.part part;
      received = suc m.received;
      before = before_at (snapshot_in message) m;
      behind = behind_at (snapshot_in message) m;
    }

-- a planned scope ends
abbrev pub ends_plan : ScopeId → Machine → ℕ
ends_plan s m = if m.planned s then pred m.plans else m.plans

-- machine a makes the update of v, whose scope is s, and logs this entry
abbrev pub works_on : Setting → ℕ → ScopeId → ℕ → Entry → Machine → Machine
works_on st a s v entry m =
    let part = updated st a s v entry m.part in
    let unmarked = nat_lt (m.part.datum v).mark m.part.known in
    record m {
      part = part;
      sent = m.sent + gained st m.part part;
      plans = ends_plan s m;
      before = if unmarked then m.before ++ entry ∷ [] else m.before;
      behind = if unmarked then m.behind else m.behind ++ entry ∷ [];
    }

-- and where half of the window is full it asks for a snapshot
abbrev pub makes_update : Setting → ℕ → ScopeId → ℕ → Entry → Machine → Machine
makes_update st a s v entry m = asks st (works_on st a s v entry m)

-- machine a makes the snapshot update of v
abbrev pub makes_mark : Setting → ℕ → ScopeId → ℕ → Machine → Machine
makes_mark st a s v m =
    let part = marked st a s v m.part in
    record m { part = part; sent = m.sent + gained st m.part part; plans = ends_plan s m }

-- it sends its section
abbrev pub sections : Machine → Machine
sections m =
    record m {
      part = record m.part { sent = m.part.known };
      before = [];
      unsure = m.unsure ++ length m.before ∷ [];
      out = m.out ++ Saved m.part.known m.part.saved m.before ∷ [];
    }

-- its oldest section that it wasn't sure of is acknowledged
abbrev pub commits : ℕ → Machine → Machine
commits k m = record m { acknowledged = k; unsure = rest_of m.unsure; wanted = false }

-- machine a hears from the coordinator
abbrev pub takes_call : Setting → ℕ → Call → Machine → Machine
takes_call st a (Begin k) m = record m { part = begins st a k m.part; before = before_at k m; behind = behind_at k m }
takes_call st a (Committed k) m = asks st (commits k m)
takes_call st a (Wave k) m = record m { held = Some k }
takes_call st a (Step colour) m = record m { part = steps_to colour m.part }

-- what is next for machine q goes away; what is next for the coordinator does
abbrev pub hands : ℕ → List Message → Machine → Machine
hands q behind m = record m { part = record m.part { out = set_at m.part.out q behind } }

-- the first report goes away
abbrev pub hands_report : List Report → Machine → Machine
hands_report behind m = record m { out = behind }

-- it does nothing more in this attempt
abbrev pub fails : Machine → Machine
fails m = record m { failed = true }

-- machine a goes back to these numbers, which are those of snapshot k
abbrev pub goes_back : Setting → GraphState → ℕ → ℕ → Machine → Machine
goes_back st numbers k a m =
    record {
      part = begun_again st numbers k a m.part;
      sent = 0;
      received = 0;
      held = None;
      planned = λ s. false;
      plans = 0;
      before = [];
      behind = [];
      unsure = [];
      acknowledged = k;
      wanted = false;
      done = m.done + length m.part.log;
      failed = false;
      out = [];
    }
