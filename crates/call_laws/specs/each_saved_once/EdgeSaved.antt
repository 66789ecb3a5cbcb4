-- Two machines with a vertex each and an edge between them, up to where a record is due.
use Rattle.std.specs.Prelude.{List, [], true, ◌++◌, ◌∷◌}
use Rattle.cluster_laws.specs.cluster_core.Settings.{Setting}
use Rattle.whole_laws.specs.cluster_ending.FourWaves.{first_vertex, hop, led_through, on_a_pair, started_from}
use Rattle.cluster_laws.specs.cluster_model.Clusters.{Cluster}
use Rattle.cluster_laws.specs.cluster_model.Events.{Admit, DeliverCall, DeliverReport, Event, Grant, Mark, PutBegin, Section, SendCall, SendReport}
use Rattle.whole_laws.specs.cluster_whole.Windows.{scope_at}

-- with a store and a window of 1
abbrev pub pair_with_store : Setting
pair_with_store = record on_a_pair { stored = true; window = 1 }

-- the first vertex is updated, and its machine's word comes that it wants a snapshot
abbrev pub one_wants : List Event
one_wants = first_vertex 0 ++ SendReport 0 ∷ DeliverReport 0 ∷ []

abbrev pub one_wanted : Cluster
one_wanted = led_through pair_with_store (started_from pair_with_store) one_wants

-- a snapshot begins at machine 0, the first vertex is marked, and word of that comes to machine 1
abbrev pub first_marks : List Event
first_marks = PutBegin ∷ SendCall 0 ∷ DeliverCall 0 ∷ Admit 0 0 ∷ Grant 0 0 ∷ (hop 0 1 ++ Grant 1 1 ∷ (hop 1 0 ++ Mark (scope_at 0 1) ∷ hop 0 1))

abbrev pub first_marked : Cluster
first_marked = led_through pair_with_store one_wanted first_marks

-- the second vertex is marked
abbrev pub second_marks : List Event
second_marks = Admit 1 1 ∷ (hop 1 0 ++ Grant 0 0 ∷ (hop 0 1 ++ Grant 1 1 ∷ Mark (scope_at 1 0) ∷ []))

abbrev pub both_marked : Cluster
both_marked = led_through pair_with_store first_marked second_marks

-- both sections come
abbrev pub sections_go : List Event
sections_go = Section 0 ∷ Section 1 ∷ SendReport 0 ∷ DeliverReport 0 ∷ SendReport 1 ∷ DeliverReport 1 ∷ []

abbrev pub both_come : Cluster
both_come = led_through pair_with_store both_marked sections_go

-- all of it
abbrev pub pair_saves_once : List Event
pair_saves_once = one_wants ++ (first_marks ++ (second_marks ++ sections_go))
