-- Three vertices on two machines, and a snapshot that has the first update alone.
use Rattle.std.specs.Prelude.{ℕ, true, false, ◌&&◌, List, [], ◌∷◌, ◌++◌, if◌then◌else◌, nat_lt, ◌==◌, None}
use Rattle.gl_base.specs.declared.entries.Entry.{Entry}
use Rattle.gl_base.specs.declared.entries.Entry.TheVariants.{Go}
use Rattle.gl_base.specs.declared.scopes.ScopeId.{ScopeId}
use Rattle.graph_core.specs.DataGraph.{DataGraph}
use Rattle.update_api.specs.Updates.{update_of_paths}
use Rattle.seq_run.specs.Examples.{edge}
use Rattle.seq_run.specs.States.{start_state}
use Rattle.cluster_laws.specs.cluster_core.Actions.{Action, Admit, Grant, Send, Deliver, Update, Mark, Begin, Hear, SendSection, Collect, after}
use Rattle.cluster_laws.specs.cluster_core.Effects.{nothing_saved}
use Rattle.cluster_laws.specs.cluster_core.Parts.{Part}
use Rattle.cluster_laws.specs.cluster_core.Settings.{Locking, Setting}
use Rattle.cluster_laws.specs.cluster_core.Worlds.{World}

-- vertices 1 to 3 with the edges 1 2 of weight 4 and 2 3 of weight 5
abbrev pub two_edges : DataGraph
two_edges = record { ids = 1 ∷ 2 ∷ 3 ∷ []; edges = edge 0 1 4 ∷ edge 1 2 5 ∷ []; directed = false }

-- paths from vertex 1, which is on machine 0; the others are on machine 1
abbrev pub on_two_machines : Setting
on_two_machines =
    record {
      graph = two_edges;
      program = update_of_paths 1;
      owner = λ v. if v == 0 then 0 else 1;
      machines = 2;
      pipeline = 1;
      engine = Locking;
      stored = true;
      window = 2;
      start = start_state two_edges (update_of_paths 1);
      base = 0;
    }

-- each vertex is a task, and nothing is under way
abbrev pub part_at_first : ℕ → Part
part_at_first a =
    record {
      datum = λ v. record { value = on_two_machines.start.vertex v; version = 0; mark = 0 };
      edge = λ e. 0;
      task = λ u. (if u == 0 then 0 else 1) == a && nat_lt u 3;
      log = [];
      serial = 0;
      flying = 0;
      flight = λ s. None;
      stand = λ s. None;
      ready = λ s. false;
      holder = λ x s. None;
      queue = λ x. [];
      pending = λ u. false;
      known = 0;
      saved = nothing_saved;
      sent = 0;
      colour = 0;
      closed = false;
      out = λ q. [];
    }

abbrev pub at_first : World
at_first =
    record {
      part = part_at_first;
      link = λ p q. [];
      next = 0;
      left = 10;
      begun = 0;
      acknowledged = 0;
      orders = λ a. [];
      reports = λ a. [];
      collected = λ a. None;
    }

-- these actions, one after another
abbrev pub led_by : World → List Action → World
led_by w [] = w
led_by w (action ∷ actions) = led_by (after on_two_machines w action) actions

-- a scope of this machine
abbrev pub scope_of : ℕ → ℕ → ScopeId
scope_of a serial = record { home = record { 0 = a }; serial = serial }

-- the scope of vertex 2 takes its locks at machine 0 and at machine 1
abbrev pub middle_locks : List Action
middle_locks = Admit 1 1 ∷ Send 1 0 ∷ Deliver 1 0 ∷ Grant 0 0 ∷ Send 0 1 ∷ Deliver 0 1 ∷ Grant 1 1 ∷ Grant 1 2 ∷ []

-- vertex 2 is updated, and machine 0 hears of that
abbrev pub middle_update : List Action
middle_update = middle_locks ++ Update (scope_of 1 0) ∷ Send 1 0 ∷ Deliver 1 0 ∷ []

abbrev pub middle_updated : World
middle_updated = led_by at_first middle_update

-- a snapshot begins at machine 1, where vertex 2 is the first vertex, and its snapshot update is made
abbrev pub middle_mark : List Action
middle_mark = Begin ∷ Hear 1 ∷ (middle_locks ++ Mark (scope_of 1 1) ∷ [])

abbrev pub middle_marked : World
middle_marked = led_by middle_updated middle_mark

-- the scope of vertex 3 takes its locks, at machine 1 alone
abbrev pub last_locks : List Action
last_locks = Admit 1 2 ∷ Grant 1 1 ∷ Grant 1 2 ∷ []

abbrev pub last_ready : World
last_ready = led_by middle_marked last_locks

-- its snapshot update is made, and behind that its update
abbrev pub last_update : List Action
last_update = Mark (scope_of 1 2) ∷ (last_locks ++ Update (scope_of 1 3) ∷ [])

abbrev pub last_updated : World
last_updated = led_by last_ready last_update

-- word of the mark of vertex 2 comes to machine 0, where the snapshot begins by that, and vertex 1 is marked; then its order comes
abbrev pub first_mark : List Action
first_mark =
    Send 1 0 ∷ Deliver 1 0 ∷ Admit 0 0 ∷ Grant 0 0 ∷ Send 0 1 ∷ Deliver 0 1 ∷ Grant 1 1 ∷ Send 1 0 ∷ Deliver 1 0 ∷ Mark (scope_of 0 0) ∷ Send 0 1 ∷ Deliver 0 1 ∷ Hear 0 ∷ []

abbrev pub all_are_marked : World
all_are_marked = led_by last_updated first_mark

-- the sections come
abbrev pub sections_come : List Action
sections_come = SendSection 0 ∷ SendSection 1 ∷ Collect 0 ∷ Collect 1 ∷ []

abbrev pub sections_are_there : World
sections_are_there = led_by all_are_marked sections_come

-- the order of the two updates, and the cut that has the first alone
abbrev pub both_updates : List Entry
both_updates = Go (record { 0 = 1 }) (record { 0 = 1 }) 0 ∷ Go (record { 0 = 1 }) (record { 0 = 2 }) 1 ∷ []

abbrev pub one_of_middle : ℕ → ℕ
one_of_middle v = if v == 1 then 1 else 0
