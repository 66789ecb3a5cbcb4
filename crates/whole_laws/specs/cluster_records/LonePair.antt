-- Two vertices without an edge on one machine, whose window has room for one update: the machine asks for a snapshot.
use Rattle.std.specs.Prelude.{List, None, [], false, nat_lt, true, ℕ, ◌∷◌}
use Rattle.gl_base.specs.declared.entries.Entry.{Entry}
use Rattle.gl_base.specs.declared.entries.Entry.TheVariants.{Go}
use Rattle.gl_base.specs.declared.scopes.ScopeId.{ScopeId}
use Rattle.cluster_laws.specs.cluster_core.Effects.{nothing_saved}
use Rattle.cluster_laws.specs.cluster_core.Settings.{Chromatic, Setting}
use Rattle.cluster_laws.specs.cluster_model.Clusters.{BaseView, Cluster}
use Rattle.cluster_laws.specs.cluster_model.Events.{Admit, DeliverCall, DeliverReport, Event, Mark, PutBegin, PutStep, Record, Section, SendCall, SendReport, Update, recovers}
use Rattle.cluster_laws.specs.cluster_model.Leading.{first_coordinator}
use Rattle.cluster_laws.specs.cluster_model.Machines.{Machine}
use Rattle.whole_laws.specs.cluster_records.LineOfFour.{after_events}
use Rattle.graph_core.specs.DataGraph.{DataGraph}
use Rattle.seq_run.specs.States.{start_state}
use Rattle.update_api.specs.Updates.{update_of_components}

-- vertices 1 and 2
abbrev pub lone_pair : DataGraph
lone_pair = record { ids = 1 ∷ 2 ∷ []; edges = []; directed = false }

-- both on one machine, in one colour, with a window of 1
abbrev pub pair_alone : Setting
pair_alone =
    record {
      graph = lone_pair;
      program = update_of_components;
      owner = λ v. 0;
      machines = 1;
      pipeline = 1;
      engine = Chromatic (λ v. 1) 1;
      stored = true;
      window = 1;
      start = start_state lone_pair update_of_components;
      base = 0;
    }

-- no order, and the start state
abbrev pub pair_base : BaseView
pair_base = record { number = 0; order = []; numbers = start_state lone_pair update_of_components }

-- a machine that has done nothing
abbrev pub pair_machine : Machine
pair_machine =
    record {
      part = record {
        datum = λ v. record { value = pair_alone.start.vertex v; version = 0; mark = 0 };
        edge = λ e. 0;
        task = λ u. nat_lt u 2;
        log = [];
        serial = 0;
        flying = 0;
        flight = λ s. None;
        stand = λ s. None;
        ready = λ s. false;
        holder = λ x s. None;
        queue = λ x. [];
        pending = λ u. false;
        known = 0;
        saved = nothing_saved;
        sent = 0;
        colour = 0;
        closed = true;
        out = λ q. [];
      };
      sent = 0;
      received = 0;
      held = None;
      planned = λ s. false;
      plans = 0;
      before = [];
      behind = [];
      unsure = [];
      acknowledged = 0;
      wanted = false;
      done = 0;
      failed = false;
      out = [];
    }

-- three tickets are left
abbrev pub pair_cluster : Cluster
pair_cluster =
    record {
      machine = λ a. pair_machine;
      link = λ p q. [];
      calls = λ a. [];
      reports = λ a. [];
      coordinator = first_coordinator pair_alone 0 0;
      next = 0;
      left = 3;
      base = pair_base;
      stopped = false;
    }

-- the scopes of the machine, by number
abbrev pub pair_scope : ℕ → ScopeId
pair_scope n = record { home = record { 0 = 0 }; serial = n }

-- the update of vertex 1
abbrev pub pair_entry : Entry
pair_entry = Go (record { 0 = 0 }) (record { 0 = 0 }) 0

-- a step begins, and vertex 1 is updated
abbrev pub pair_updates : List Event
pair_updates = PutStep ∷ SendCall 0 ∷ DeliverCall 0 ∷ Admit 0 0 ∷ Update (pair_scope 0) ∷ []

-- the machine's word comes, a snapshot begins, both vertices are marked, and it is recorded and acknowledged
abbrev pub pair_saves : List Event
pair_saves =
    SendReport 0 ∷ DeliverReport 0 ∷ PutBegin ∷ SendCall 0 ∷ DeliverCall 0 ∷ Admit 0 0 ∷ Mark (pair_scope 1) ∷ Admit 0 1 ∷ Mark (pair_scope 2)
    ∷ Section 0 ∷ SendReport 0 ∷ DeliverReport 0 ∷ Record ∷ SendCall 0 ∷ DeliverCall 0 ∷ []

-- where that leads
abbrev pub pair_at_first : Cluster
pair_at_first = recovers pair_alone pair_base pair_cluster

-- after the update
abbrev pub pair_updated : Cluster
pair_updated = after_events pair_alone pair_updates pair_at_first

-- after the snapshot
abbrev pub pair_saved : Cluster
pair_saved = after_events pair_alone pair_saves pair_updated
