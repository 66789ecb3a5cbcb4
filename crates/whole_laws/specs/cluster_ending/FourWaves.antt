-- Two worked runs: two machines with a vertex each and four waves, and one machine with one vertex and two waves.
use Rattle.std.specs.Prelude.{List, None, Option, Some, [], false, true, ℕ, ◌++◌, ◌∷◌}
use Rattle.gl_base.specs.declared.scopes.Counted.{Counted}
use Rattle.graph_core.specs.DataGraph.{DataGraph}
use Rattle.update_api.specs.Updates.{update_of_components}
use Rattle.seq_run.specs.Examples.{edge}
use Rattle.seq_run.specs.States.{start_state}
use Rattle.cluster_laws.specs.cluster_core.Effects.{nothing_saved}
use Rattle.cluster_laws.specs.cluster_core.Parts.{Part}
use Rattle.cluster_laws.specs.cluster_core.Settings.{Locking, Setting}
use Rattle.cluster_laws.specs.cluster_model.Clusters.{BaseView, Cluster}
use Rattle.cluster_laws.specs.cluster_model.Events.{Admit, Deliver, DeliverCall, DeliverReport, Event, Grant, PutWave, Send, SendCall, SendReport, Update, after_event, recovers}
use Rattle.cluster_laws.specs.cluster_model.Leading.{first_coordinator}
use Rattle.cluster_laws.specs.cluster_model.Machines.{Machine}
use Rattle.whole_laws.specs.cluster_whole.Windows.{scope_at}

-- ---- a run from its first base

-- labels of components, with locks and without snapshots; machine a owns vertex a
abbrev pub labels_on : ℕ → DataGraph → Setting
labels_on machines graph =
    record {
      graph = graph;
      program = update_of_components;
      owner = λ v. v;
      machines = machines;
      pipeline = 1;
      engine = Locking;
      stored = false;
      window = 1;
      start = start_state graph update_of_components;
      base = 0;
    }

-- the base that the run begins with
abbrev pub first_base : Setting → BaseView
first_base st = record { number = 0; order = []; numbers = st.start }

-- a machine that has done nothing
abbrev pub fresh_part : Part
fresh_part =
    record {
      datum = λ v. record { value = 0; version = 0; mark = 0 };
      edge = λ e. 0;
      task = λ u. false;
      log = [];
      serial = 0;
      flying = 0;
      flight = λ s. None;
      stand = λ s. None;
      ready = λ s. false;
      holder = λ x s. None;
      queue = λ x. [];
      pending = λ u. false;
      known = 0;
      saved = nothing_saved;
      sent = 0;
      colour = 0;
      closed = true;
      out = λ q. [];
    }

-- with what it counts
abbrev pub fresh_machine : Machine
fresh_machine =
    record {
      part = fresh_part;
      sent = 0;
      received = 0;
      held = None;
      planned = λ s. false;
      plans = 0;
      before = [];
      behind = [];
      unsure = [];
      acknowledged = 0;
      wanted = false;
      done = 0;
      failed = false;
      out = [];
    }

-- before the first attempt
abbrev pub fresh_cluster : Setting → Cluster
fresh_cluster st =
    record {
      machine = λ a. fresh_machine;
      link = λ p q. [];
      calls = λ a. [];
      reports = λ a. [];
      coordinator = first_coordinator st 0 0;
      next = 0;
      left = 20;
      base = first_base st;
      stopped = false;
    }

-- the first attempt begins
abbrev pub started_from : Setting → Cluster
started_from st = recovers st (first_base st) (fresh_cluster st)

-- these events, one after another
abbrev pub led_through : Setting → Cluster → List Event → Cluster
led_through st c [] = c
led_through st c (event ∷ events) = led_through st (after_event st c event) events

-- ---- events in turn

-- a message goes from p to q
abbrev pub hop : ℕ → ℕ → List Event
hop p q = Send p q ∷ Deliver p q ∷ []

-- machine a is asked for its counts and answers
abbrev pub one_answers : ℕ → List Event
one_answers a = SendCall a ∷ DeliverCall a ∷ SendReport a ∷ DeliverReport a ∷ []

-- ---- two machines

-- vertices 1 and 2 with an edge between them, on two machines
abbrev pub on_a_pair : Setting
on_a_pair = labels_on 2 (record { ids = 1 ∷ 2 ∷ []; edges = edge 0 1 1 ∷ []; directed = false })

-- a wave, which both answer
abbrev pub pair_wave : List Event
pair_wave = PutWave ∷ (one_answers 0 ++ one_answers 1)

-- vertex 1 is updated: Ask, Ready and Done go between the machines and are received
abbrev pub first_vertex : ℕ → List Event
first_vertex serial = Admit 0 0 ∷ Grant 0 0 ∷ (hop 0 1 ++ Grant 1 1 ∷ (hop 1 0 ++ Update (scope_at 0 serial) ∷ hop 0 1))

-- vertex 2 is updated after two Asks, and its Done stays in the outbox
abbrev pub second_vertex : List Event
second_vertex = Admit 1 1 ∷ (hop 1 0 ++ Grant 0 0 ∷ (hop 0 1 ++ Grant 1 1 ∷ Update (scope_at 1 0) ∷ []))

-- both are updated, and a first wave is answered
abbrev pub after_one_wave : Cluster
after_one_wave = led_through on_a_pair (started_from on_a_pair) (first_vertex 0 ++ second_vertex ++ pair_wave)

-- a second one
abbrev pub after_two_waves : Cluster
after_two_waves = led_through on_a_pair after_one_wave pair_wave

-- the Done comes, vertex 1 is updated again, and a third wave is answered
abbrev pub after_three_waves : Cluster
after_three_waves = led_through on_a_pair after_two_waves (hop 1 0 ++ first_vertex 1 ++ pair_wave)

-- a fourth one
abbrev pub after_four_waves : Cluster
after_four_waves = led_through on_a_pair after_three_waves pair_wave

-- an idle machine answers this
abbrev pub idle_answer : ℕ → ℕ → ℕ → Option Counted
idle_answer sent received updates = Some (record { sent = sent; received = received; updates = updates; idle = true })

-- what the two answer to the first two waves
abbrev pub early_answers : List (Option Counted)
early_answers = idle_answer 3 2 1 ∷ idle_answer 3 3 1 ∷ []

-- and to the last two
abbrev pub late_answers : List (Option Counted)
late_answers = idle_answer 5 4 2 ∷ idle_answer 4 5 1 ∷ []

-- ---- one machine

-- one vertex on one machine
abbrev pub on_one_machine : Setting
on_one_machine = labels_on 1 (record { ids = 1 ∷ []; edges = []; directed = false })

-- its vertex is updated, and it answers two waves
abbrev pub lone_events : List Event
lone_events = Admit 0 0 ∷ Grant 0 0 ∷ Update (scope_at 0 0) ∷ (PutWave ∷ one_answers 0 ++ PutWave ∷ one_answers 0)

-- the end of that
abbrev pub after_lone_run : Cluster
after_lone_run = led_through on_one_machine (started_from on_one_machine) lone_events
