-- The part of a cluster that a machine's parts stand for.
pub use Rattle.cluster_laws.specs.cluster_core.Parts.{Part, Stand}
pub use Rattle.local_graph.specs.Locals.{LocalView, place_at, is_placed, is_own, links_at, row_at, sides_at, parts_at, part_at, machine_numbers}
pub use Rattle.partition.specs.machine_numbers.Views.{TasksView, datum_here, task_here, edge_here, flag_there, number_told, is_in_update}
pub use Rattle.scope_locks.specs.scope_pipe.Entered.{EnteredView, last_asked, lock_asked}
pub use Rattle.scope_locks.specs.scope_pipe.Pipes.{PipeView, flight_at, is_ready, flight_count, entered_at}
pub use Rattle.scope_locks.specs.vertex_locks.Tables.{is_owned, holder_at, queue_at}
pub use Rattle.wire.specs.outboxes.Outboxes.{OutboxesView, MessageView, DoneView, waiting_for}
use Rattle.std.specs.Prelude.{ℕ, Bool, true, Option, Some, None, List, map, option_map}
use Rattle.gl_base.specs.declared.scopes.Peer.TheVariants.{Machine}
use Rattle.gl_base.specs.declared.numbers.Vertex.{Vertex}
use Rattle.cluster_laws.specs.cluster_core.Effects.{nothing_saved}
use Rattle.cluster_laws.specs.cluster_core.Messages.{Message, News}
use Rattle.cluster_laws.specs.cluster_core.Messages as law
use Rattle.wire.specs.wire_msgs.Views as told
use Rattle.partition.specs.declared.machine_numbers.keeping.Numbers.{Numbers}
use Rattle.machine_core.specs.declared.machine_parts.cores.Core.{Core}

-- ---- messages

-- what a message tells of an update
abbrev pub news_told : DoneView → News
news_told d =
    record {
      centre = d.centre.0;
      datum = d.datum;
      edges = number_told d.edges;
      wakes = is_in_update d.wakes;
      pends = is_in_update d.pends;
      number = d.number;
    }

-- word of a scope of a machine that can't be
abbrev pub word_of_none : Message
word_of_none = law.Ready (record { home = record { 0 = 65536 }; serial = 0 })

-- a message between machines; they tell each other nothing else
abbrev pub message_of : MessageView → Message
message_of (told.Ask scope centre rest) = law.Ask scope centre.0 (machine_numbers rest)
message_of (told.Ready scope) = law.Ready scope
message_of (told.Done d) = law.Done d.scope (news_told d)
message_of _ = word_of_none

-- what waits to be sent to machine q
abbrev pub messages_for : OutboxesView → ℕ → List Message
messages_for out q = map message_of (waiting_for out (Machine (record { 0 = q })))

-- ---- scopes

abbrev pub number_of : Option Vertex → Option ℕ
number_of o = option_map (λ v. v.0) o

-- it stands at the lock that it asked for last
abbrev pub stand_of : EnteredView → Option Stand
stand_of e = option_map (λ x. record { centre = e.centre.0; lock = x.0; rest = machine_numbers e.rest }) (lock_asked e)

abbrev pub stand_at : Option EnteredView → Option Stand
stand_at None = None
stand_at (Some e) = stand_of e

-- ---- tasks

-- whether it is pending here
abbrev pub pending_here : Numbers → ℕ → Bool
pending_here n v = flag_there n.tasks.pending (place_at n.local v)

-- whether it is admitted here
abbrev pub admitted_here : Numbers → ℕ → Bool
admitted_here n v = flag_there n.tasks.admitted (place_at n.local v)

-- ---- the machine

-- The part that a machine's parts stand for. Of snapshots it knows the one that the run began with, and it goes through no steps.
abbrev pub part_of : Core → Part
part_of m =
    record {
      datum = datum_here m.numbers;
      edge = edge_here m.numbers;
      task = task_here m.numbers;
      log = m.numbers.log.items;
      serial = m.pipe.serial;
      flying = flight_count m.pipe;
      flight = λ s. number_of (flight_at m.pipe s);
      stand = λ s. stand_at (entered_at m.pipe s);
      ready = is_ready m.pipe;
      holder = holder_at m.locks;
      queue = queue_at m.locks;
      pending = pending_here m.numbers;
      known = m.terms.base;
      saved = nothing_saved;
      sent = m.terms.base;
      colour = 0;
      closed = true;
      out = messages_for m.out;
    }
