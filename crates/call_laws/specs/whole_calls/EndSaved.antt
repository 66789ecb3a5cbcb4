-- One vertex on one machine with a store: its one update is too little for the machine to ask for a snapshot, so one is taken for the end.
use Rattle.std.specs.Prelude.{List, [], true, ◌∷◌}
use Rattle.cluster_laws.specs.cluster_core.Settings.{Setting}
use Rattle.whole_laws.specs.cluster_ending.FourWaves.{led_through, lone_events, on_one_machine, started_from}
use Rattle.cluster_laws.specs.cluster_model.Clusters.{Cluster}
use Rattle.cluster_laws.specs.cluster_model.Events.{Admit, Event, Grant, Mark, PutBegin, Record, Section, SendCall, DeliverCall, SendReport, DeliverReport}
use Rattle.whole_laws.specs.cluster_whole.Windows.{scope_at}

-- with a window of 4
abbrev pub one_with_store : Setting
one_with_store = record on_one_machine { stored = true; window = 4 }

-- its vertex is updated, and two waves show the end
abbrev pub one_quiet : Cluster
one_quiet = led_through one_with_store (started_from one_with_store) lone_events

-- a snapshot begins that no machine asked for, the vertex is marked, and it is acknowledged
abbrev pub one_saves : List Event
one_saves =
    PutBegin ∷ SendCall 0 ∷ DeliverCall 0 ∷ Admit 0 0 ∷ Grant 0 0 ∷ Mark (scope_at 0 1) ∷ Section 0 ∷ SendReport 0 ∷ DeliverReport 0 ∷ Record ∷ []

-- where that leads
abbrev pub one_saved : Cluster
one_saved = led_through one_with_store one_quiet one_saves
