-- Four vertices in a line on two machines, with the colours 1, 2, 1, 2, in their first step.
use Rattle.std.specs.Prelude.{List, [], false, if◌then◌else◌, nat_lt, ℕ, ◌==◌, ◌||◌, ◌∷◌}
use Rattle.cluster_laws.specs.cluster_core.Settings.{Chromatic, Setting}
use Rattle.cluster_laws.specs.cluster_model.Clusters.{BaseView, Cluster}
use Rattle.cluster_laws.specs.cluster_model.Events.{DeliverCall, Event, PutStep, SendCall, after_event, recovers, setting_after}
use Rattle.graph_core.specs.DataGraph.{DataGraph}
use Rattle.seq_run.specs.Examples.{edge}
use Rattle.seq_run.specs.States.{start_state}
use Rattle.update_api.specs.Updates.{update_of_components}

-- vertices 1 to 4 with the edges 1 2, 2 3 and 3 4
abbrev pub line_of_four : DataGraph
line_of_four = record { ids = 1 ∷ 2 ∷ 3 ∷ 4 ∷ []; edges = edge 0 1 1 ∷ edge 1 2 1 ∷ edge 2 3 1 ∷ []; directed = false }

-- the colours of the places 0 to 3 are 1, 2, 1, 2
abbrev pub colour_in_line : ℕ → ℕ
colour_in_line v = if v == 0 || v == 2 then 1 else 2

-- two vertices on each machine
abbrev pub line_in_colours : Setting
line_in_colours =
    record {
      graph = line_of_four;
      program = update_of_components;
      owner = λ v. if nat_lt v 2 then 0 else 1;
      machines = 2;
      pipeline = 1;
      engine = Chromatic colour_in_line 2;
      stored = false;
      window = 0;
      start = start_state line_of_four update_of_components;
      base = 0;
    }

-- nothing was done yet
abbrev pub line_base : BaseView
line_base = record { number = 0; order = []; numbers = start_state line_of_four update_of_components }

-- what these events lead to, one after another
abbrev pub after_events : Setting → List Event → Cluster → Cluster
after_events st [] c = c
after_events st (event ∷ events) c = after_events (setting_after st event) events (after_event st c event)

-- the first step is put out, and both machines are told
abbrev pub first_step : List Event
first_step = PutStep ∷ SendCall 0 ∷ SendCall 1 ∷ DeliverCall 0 ∷ DeliverCall 1 ∷ []

-- the cluster in its first step, whatever tickets and bytes there were
abbrev pub in_first_step : Cluster → Cluster
in_first_step c = after_events line_in_colours first_step (recovers line_in_colours line_base c)
