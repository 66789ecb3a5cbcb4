use Rattle.std.proofs.Common.{◌≡◌, ◌∙◌, slice_get}
use Rattle.scope_locks.specs.scope_pipe.Entered.{next_at}
use Rattle.machine_core.specs.machine_scopes.Asking.{part_at}
use Rattle.machine_core.proofs.machine_scopes.RoomForNext.{within_first, rest_machines}
use Rattle.machine_core.proofs.machine_scopes.starting.prepare_here.Goals as goal

pub reserve_next-requires : goal.reserve_next-requires
reserve_next-requires c =
    let m = c.args.core.now in
    let listed : c.in_ok-part.part.items ≡ part_at m.numbers.local c.args.v.0 = c.in_ok-part.ensures ∙ c.part.ensures in
    let now = record m { spare = c.copy.new.self } in
    within_first now c.args.scope c.args.v c.in_ok-part.part.items c.args.rest.items c.wants_first-next.result c.requires.graph c.requires.locks
    (rest_machines now c.args.scope c.args.v.0 _ c.args.rest.items c.requires.graph c.requires.own c.requires.home c.requires.machines) listed
    (c.wants_first-next.ensures ∙ (λ i. next_at c.args.v (slice_get (c.deref.ensures.value i) 0) (c.deref-2.ensures.value i)))
