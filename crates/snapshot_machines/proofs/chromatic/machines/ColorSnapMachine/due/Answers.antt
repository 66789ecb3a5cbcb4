-- The first in the line of the step's colour is due, and nobody is where nobody stands there.
use Rattle.std.proofs.Common.{refl, sym, ap, ◌∙◌}
use Rattle.machine_core.specs.declared.machine_parts.cores.Core.{Core}
use Rattle.task_sets.specs.task_sched.Tasks.{is_open}
use Rattle.snapshot_machines.specs.chromatic.Inner.Keeping.{seen_in_steps}
use Rattle.snapshot_machines.proofs.chromatic.AdmitLemmas.{first_pending, first_task, none_without_room}
use Rattle.snapshot_machines.proofs.chromatic.machines.ColorSnapMachine.due.Goals as goal

pub returns-clause-some : goal.returns-clause-some
returns-clause-some g c =
    let m = c.self.inside in
    let e = c.in_ok-vertex.ensures in
    let room = sym c.has_room.ensures ∙ c.if-not-has_room.false in
    rw (← c.self.view_is) (first_task (seen_in_steps m.machine m.lines.colours m.colour m.closed) m.lines m.asked c.self.invariant.in_line refl c.in_ok-vertex.vertex c.in_default.ensures.none
    (sym (ap (λ (n : Core). is_open n.numbers.tasks) c.core.ensures.parts) ∙ room) e.waits e.colour)

pub returns-in-Some-clause-some : goal.returns-in-Some-clause-some
returns-in-Some-clause-some g c =
    let m = c.self.inside in
    let e = c.in-Some.ensures in
    rw (← c.self.view_is) (first_pending (seen_in_steps m.machine m.lines.colours m.colour m.closed) m.lines m.asked c.self.invariant.in_line refl c.in-Some.vertex e.waits e.colour)

pub returns-then-not-has_room-clause-none : goal.returns-then-not-has_room-clause-none
returns-then-not-has_room-clause-none g c =
    let m = c.self.inside in
    rw (← c.self.view_is) (none_without_room (seen_in_steps m.machine m.lines.colours m.colour m.closed) m.lines m.asked c.self.invariant.in_line refl c.in_default.ensures.none
    (sym (ap (λ (n : Core). is_open n.numbers.tasks) c.core.ensures.parts) ∙ sym c.has_room.ensures ∙ c.if-not-has_room.true))

pub returns-then-not-has_room-clause-order : goal.returns-then-not-has_room-clause-order
returns-then-not-has_room-clause-order g c =
    let core = c.core.ensures in
    rw (← c.self.view_is) (record { orderly = core.orderly; places = core.places; rows = core.rows; outside = core.outside })
