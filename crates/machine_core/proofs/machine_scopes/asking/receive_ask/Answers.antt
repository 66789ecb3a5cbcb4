use Rattle.std.proofs.Common.{◌≡◌, ◌∙◌, slice_get, ap}
use Rattle.scope_locks.specs.scope_pipe.Entered.{next_at}
use Rattle.scope_locks.specs.scope_pipe.Pipes.{is_ready}
use Rattle.machine_core.specs.declared.machine_parts.cores.Core.{Core}
use Rattle.machine_core.specs.machine_parts.Order.{nobody}
use Rattle.machine_core.proofs.machine_parts.RoomLemmas.{orderly_room, part_room}
use Rattle.machine_core.specs.machine_scopes.Asking.{Ask, machine_numbers, part_at}
use Rattle.machine_core.proofs.machine_scopes.ComeLemmas.{not_ready, received_room}
use Rattle.machine_core.proofs.machine_scopes.RoomForNext.{within_first, room_spare}
use Rattle.machine_core.proofs.machine_scopes.asking.receive_ask.Goals as goal

pub reserve_next-requires : goal.reserve_next-requires
reserve_next-requires c =
    let m = c.args.core.now in
    let listed : c.in-Ok.part.items ≡ part_at m.numbers.local c.args.centre.0 = c.in-Ok.ensures ∙ c.part.ensures in
    within_first (record m { spare = c.copy.new.self }) c.args.scope c.args.centre c.in-Ok.part.items c.args.rest.items c.wants_first-next.result c.requires.orderly.graph c.requires.orderly.locks.owned
    (record { machines = c.requires.machines.machines; home = c.requires.machines.home }) listed
    (c.wants_first-next.ensures ∙ (λ i. next_at c.args.centre (slice_get (c.deref.ensures.value i) 0) (c.deref-2.ensures.value i)))

pub returns-then-is_err-clause-orderly : goal.returns-then-is_err-clause-orderly
returns-then-is_err-clause-orderly c =
    let m = c.args.core.now in
    let now = c.reserve_next.new.core in
    orderly_room nobody m now (room_spare m now c.copy.new.self c.reserve_next.ensures.same) c.requires.orderly

pub returns-then-is_err-clause-unchanged : goal.returns-then-is_err-clause-unchanged
returns-then-is_err-clause-unchanged c =
    let m = c.args.core.now in
    let now = c.reserve_next.new.core in
    let room = room_spare m now c.copy.new.self c.reserve_next.ensures.same in
    (room, part_room m now room)

pub come_here-requires-clause-orderly : goal.come_here-requires-clause-orderly
come_here-requires-clause-orderly c =
    let m = c.args.core.now in
    let now = c.reserve_next.new.core in
    orderly_room nobody m now (room_spare m now c.copy.new.self c.reserve_next.ensures.same) c.requires.orderly

pub come_here-requires-clause-waits : goal.come_here-requires-clause-waits
come_here-requires-clause-waits c =
    let room = room_spare c.args.core.now c.reserve_next.new.core c.copy.new.self c.reserve_next.ensures.same in
    ap (λ (n : Core). is_ready n.pipe c.args.scope) room.rest ∙ not_ready c.args.core.now c.args.scope c.args.centre c.requires.is_new c.requires.locks c.requires.orderly

pub returns-clause-received : goal.returns-clause-received
returns-clause-received c =
    let m = c.args.core.now in
    let now = c.reserve_next.new.core in
    received_room m now c.come_here.new.core (Ask c.args.scope c.args.centre.0 (machine_numbers c.args.rest.items)) (room_spare m now c.copy.new.self c.reserve_next.ensures.same) c.come_here.ensures.received
