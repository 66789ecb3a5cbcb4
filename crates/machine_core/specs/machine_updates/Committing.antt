-- What a commit asks and leaves.
pub use Rattle.machine_core.specs.lock_release.Released.{released_all}
use Rattle.std.specs.Prelude.{◌≡◌, ℕ, ◌+◌, ◌-◌, false, Option, Some, None, List, [], ◌∷◌, length, map}
use Rattle.std.specs.List.{range_with_len}
use Rattle.gl_base.specs.declared.entries.Entry.{Entry}
use Rattle.gl_base.specs.declared.entries.Entry.TheVariants.{Go}
use Rattle.gl_base.specs.declared.numbers.MachineNo.{MachineNo}
use Rattle.gl_base.specs.declared.scopes.Peer.TheVariants.{Machine}
use Rattle.gl_base.specs.declared.scopes.ScopeId.{ScopeId}
use Rattle.gl_base.specs.scope_lists.Scopes.{set_for}
use Rattle.scope_locks.specs.vertex_locks.Locks.{LockView}
use Rattle.scope_locks.specs.scope_pipe.Pipes.{without_flight}
use Rattle.local_graph.specs.Locals.{LocalView, place_at, own_datum, set_where, written}
use Rattle.local_graph.specs.declared.works.Outcome.{Outcome}
use Rattle.wire.specs.wire_msgs.Views.{MessageView, DoneView}
use Rattle.wire.specs.wire_msgs.Views as told
use Rattle.wire.specs.outboxes.Outboxes.{OutboxesView, outbox_to, with_outbox, with_message}
use Rattle.cluster_laws.specs.cluster_core.Effects.{updated}
use Rattle.cluster_laws.specs.cluster_core.Settings.{IsSetting}
use Rattle.partition.specs.declared.machine_numbers.keeping.Numbers.{Numbers}
use Rattle.partition.specs.machine_numbers.Steps.{renewed, told_datum, told_edges, told_wakes, woken_flags}
use Rattle.partition.specs.machine_numbers.Views.{TasksView, datum_or, edge_here}
use Rattle.partition.specs.machine_numbers.Settings.{IsMadeOfWork}
use Rattle.machine_core.specs.declared.machine_parts.cores.Core.{Core}
use Rattle.machine_core.specs.machine_parts.Parts.{datum_here, sides_at, part_at, is_owned, holder_at, queue_at, part_of}
use Rattle.machine_core.specs.machine_parts.Settings.{Setting, IsPartOf}
use Rattle.machine_core.specs.declared.machine_updates.reserving.Prepared.{Prepared}
use Rattle.machine_core.specs.machine_updates.Works.{HasItsRow}

-- ---- what the other machines are told

-- what machine `to` is told of the outcome
abbrev pub done_told : Numbers → Outcome → MachineNo → DoneView
done_told n o to =
    record {
      scope = o.work.scope;
      centre = o.work.vertex;
      datum = told_datum (datum_here n o.work.vertex.0) o.value;
      edges = told_edges to.0 (sides_at n.local o.work.vertex.0) o.work.row.numbers.items o.edges.items;
      wakes = told_wakes to.0 o.woken (sides_at n.local o.work.vertex.0) o.work.row.links.items;
      pends = [];
      number = 0;
    }

-- one message more waits for machine b
abbrev pub posted : MachineNo → MessageView → OutboxesView → OutboxesView
posted b m out = with_outbox out (Machine b) (with_message m (outbox_to out (Machine b)))

-- each of these machines was told, one after another
abbrev pub after_told : (MachineNo → DoneView) → List Prepared → OutboxesView → OutboxesView
after_told done [] out = out
after_told done (p ∷ ps) out = after_told done ps (posted p.to (told.Done (done p.to)) out)

-- ---- the machine after the commit, but for its log: no ticket enters it

abbrev pub local_left : Numbers → Outcome → LocalView
local_left n o =
    let l = n.local in
    let place = place_at l o.work.vertex.0 in
    record l {
      kept = set_where l.kept place (renewed (datum_or (own_datum l o.work.vertex.0)) o.value);
      rows = set_where l.rows place (Some o.work.row.links.items);
      numbers = map (written (sides_at l o.work.vertex.0) o.edges.items (edge_here n)) (range_with_len 0 (length l.numbers));
    }

abbrev pub task_set_left : Numbers → Outcome → TasksView
task_set_left n o =
    let place = place_at n.local o.work.vertex.0 in
    record n.tasks {
      task = woken_flags n.local.me.0 o.woken (sides_at n.local o.work.vertex.0) o.work.row.links.items (set_where n.tasks.task place false);
      admitted = set_where n.tasks.admitted place false;
      planned = set_where n.tasks.planned place false;
      plans = n.tasks.plans - 1;
      outside = n.tasks.outside + 1;
    }

abbrev pub machine_left : Core → Outcome → List Prepared → Core
machine_left m o prepared =
    let s = o.work.scope in
    record m {
      numbers = record m.numbers { local = local_left m.numbers o; tasks = task_set_left m.numbers o };
      pipe = record m.pipe { waiting = without_flight s m.pipe.waiting; ready = without_flight s m.pipe.ready };
      locks = released_all s (part_at m.numbers.local o.work.vertex.0) m.locks;
      out = after_told (done_told m.numbers o) prepared m.out;
    }

-- the machine with the log of another one
abbrev pub with_log_of : Core → Core → Core
with_log_of other m = record m { numbers = record m.numbers { log = other.numbers.log } }

-- ---- the commit

-- the scope holds no lock any more
pub record HasNoLock (old new : List (Option LockView)) (s : ScopeId) : Type 0 where
  pub owned : (x : ℕ) → is_owned new x ≡ is_owned old x
  pub holder : (x : ℕ) (t : ScopeId) → holder_at new x t ≡ set_for (holder_at old x) s None t
  pub queue : (x : ℕ) → queue_at new x ≡ queue_at old x

-- the entry of the update in the log
abbrev pub entry_logged : Outcome → ℕ → Entry
entry_logged o ticket = Go o.work.scope.home o.work.vertex ticket

-- The update is the cluster's, for each setting of which the machine is a part, the row is the vertex's and the outcome is what
-- the program makes of the work.
abbrev pub HasCommitted : Core → Core → Outcome → ℕ → Type 0
HasCommitted old new o ticket =
    (st : Setting) → IsSetting st → IsPartOf st old → HasItsRow st old o.work → IsMadeOfWork st.program o →
    part_of new ≡ updated st old.numbers.local.me.0 o.work.scope o.work.vertex.0 (entry_logged o ticket) (part_of old)
