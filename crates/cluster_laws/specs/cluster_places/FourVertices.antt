-- Four vertices on four machines: the last one waits for word of the second one's update.
use Rattle.std.specs.Prelude.{◌==◌, ◌&&◌, nat_lt, false, ℕ, None, List, [], ◌∷◌}
use Rattle.gl_base.specs.declared.scopes.ScopeId.{ScopeId}
use Rattle.graph_core.specs.DataGraph.{DataGraph}
use Rattle.update_api.specs.Updates.{update_of_components}
use Rattle.seq_run.specs.States.{start_state}
use Rattle.seq_run.specs.Examples.{edge}
use Rattle.cluster_laws.specs.cluster_core.Parts.{Part}
use Rattle.cluster_laws.specs.cluster_core.Effects.{nothing_saved}
use Rattle.cluster_laws.specs.cluster_core.Settings.{Setting, Locking}
use Rattle.cluster_laws.specs.cluster_core.Worlds.{World}
use Rattle.cluster_laws.specs.cluster_core.Actions.{Action, Admit, Grant, Send, Deliver, Update, after}

-- vertices 1 to 4 with the edges 1 2, 2 4 and 3 4
abbrev pub four_vertices : DataGraph
four_vertices = record { ids = 1 ∷ 2 ∷ 3 ∷ 4 ∷ []; edges = edge 0 1 1 ∷ edge 1 3 1 ∷ edge 2 3 1 ∷ []; directed = false }

-- one vertex on each machine
abbrev pub on_four_machines : Setting
on_four_machines =
    record {
      graph = four_vertices;
      program = update_of_components;
      owner = λ v. v;
      machines = 4;
      pipeline = 1;
      engine = Locking;
      stored = false;
      window = 0;
      start = start_state four_vertices update_of_components;
      base = 0;
    }

-- each vertex has its identifier as its label and is a task, and nothing is under way
abbrev pub first_part : ℕ → Part
first_part a =
    record {
      datum = λ v. record { value = on_four_machines.start.vertex v; version = 0; mark = 0 };
      edge = λ e. 0;
      task = λ u. u == a && nat_lt u 4;
      log = [];
      serial = 0;
      flying = 0;
      flight = λ s. None;
      stand = λ s. None;
      ready = λ s. false;
      holder = λ x s. None;
      queue = λ x. [];
      pending = λ u. false;
      known = 0;
      saved = nothing_saved;
      sent = 0;
      colour = 0;
      closed = false;
      out = λ q. [];
    }

abbrev pub first_world : World
first_world =
    record {
      part = first_part;
      link = λ p q. [];
      next = 0;
      left = 4;
      begun = 0;
      acknowledged = 0;
      orders = λ a. [];
      reports = λ a. [];
      collected = λ a. None;
    }

-- these actions, one after another
abbrev pub after_all : World → List Action → World
after_all w [] = w
after_all w (action ∷ actions) = after_all (after on_four_machines w action) actions

-- the scopes of vertex 2 and of vertex 4
abbrev pub second : ScopeId
second = record { home = record { 0 = 1 }; serial = 0 }

abbrev pub fourth : ScopeId
fourth = record { home = record { 0 = 3 }; serial = 0 }

-- The scope of vertex 2 takes its locks at machines 0, 1 and 3 and comes home, and its update is made. Word of that is sent to
-- machine 3.
abbrev pub second_updates : List Action
second_updates =
    Admit 1 1 ∷ Send 1 0 ∷ Deliver 1 0 ∷ Grant 0 0 ∷ Send 0 1 ∷ Deliver 0 1 ∷ Grant 1 1 ∷ Send 1 3 ∷ Deliver 1 3 ∷ Grant 3 3 ∷ Send 3 1 ∷ Deliver 3 1
    ∷ Update second ∷ Send 1 3 ∷ []

-- the scope of vertex 4 takes its locks at machines 1 and 2, and asks for its own before that word is received
abbrev pub fourth_asks : List Action
fourth_asks = Admit 3 3 ∷ Send 3 1 ∷ Deliver 3 1 ∷ Grant 1 1 ∷ Send 1 2 ∷ Deliver 1 2 ∷ Grant 2 2 ∷ Send 2 3 ∷ Deliver 2 3 ∷ []

abbrev pub while_second_flies : World
while_second_flies = after_all first_world second_updates

abbrev pub while_fourth_waits : World
while_fourth_waits = after_all while_second_flies fourth_asks

-- the word is received, and vertex 4 has its lock and is updated
abbrev pub fourth_updates : List Action
fourth_updates = Deliver 1 3 ∷ Grant 3 3 ∷ Update fourth ∷ []

abbrev pub at_last : World
at_last = after_all while_fourth_waits fourth_updates
