use Rattle.std.proofs.Common.{ap, is_some}
use Rattle.machine_core.specs.machine_parts.Order.{nobody}
use Rattle.machine_core.proofs.machine_parts.RoomLemmas.{orderly_room}
use Rattle.machine_core.proofs.machine_scopes.GrantLemmas.{orderly_taken, lock_granted, granted_room, may_grant, next_room, once_room}
use Rattle.machine_core.proofs.machine_scopes.HeldLemmas.{first_stands, first_come}
use Rattle.machine_core.proofs.machine_scopes.RoomForNext.{within_next, entered_room, taken_is}
use Rattle.machine_core.proofs.machine_scopes.TakeLemmas.{granted_in_turn}
use Rattle.machine_core.proofs.machine_scopes.granting.grant_from.Goals as goal

pub look-next-requires : goal.look-next-requires
look-next-requires c = (first_stands c.args.core.now c.args.x.0 c.args.claim c.requires.orderly c.requires.first).come

pub reserve_next-requires : goal.reserve_next-requires
reserve_next-requires c =
    let m = c.args.core.now in
    let e = first_come m c.args.x.0 c.args.claim c.requires.orderly c.requires.first in
    within_next m c.args.claim.scope e.0 c.look-next.result c.requires.orderly e.1 (c.look-next.ensures e.0 e.1)

pub returns-then-is_err-clause-orderly : goal.returns-then-is_err-clause-orderly
returns-then-is_err-clause-orderly c = orderly_room nobody c.args.core.now c.reserve_next.new.core c.reserve_next.ensures.same c.requires.orderly

pub take_free-next-requires-clause-orderly : goal.take_free-next-requires-clause-orderly
take_free-next-requires-clause-orderly c =
    let m = c.args.core.now in
    let x = c.args.x.0 in
    let now = c.reserve_next.new.core in
    let room = c.reserve_next.ensures.same in
    let e = first_come m x c.args.claim c.requires.orderly c.requires.first in
    let first = next_room m now x c.args.claim room c.requires.first in
    orderly_taken now x c.args.claim (orderly_room nobody m now room c.requires.orderly) first e.0 (entered_room m now c.args.claim.scope _ room e.1) c.grant.new.self (once_room m now x room c.requires.once)
    (taken_is now.locks c.grant.new.self x c.grant.result c.args.claim first c.grant.ensures.turn c.grant.ensures.change)

pub take_free-next-requires-clause-come : goal.take_free-next-requires-clause-come
take_free-next-requires-clause-come c =
    let m = c.args.core.now in
    let e = first_come m c.args.x.0 c.args.claim c.requires.orderly c.requires.first in
    ap is_some (entered_room m c.reserve_next.new.core c.args.claim.scope _ c.reserve_next.ensures.same e.1)

pub returns-clause-granted : goal.returns-clause-granted
returns-clause-granted c =
    let m = c.args.core.now in
    let x = c.args.x.0 in
    let now = c.reserve_next.new.core in
    let room = c.reserve_next.ensures.same in
    let e = first_come m x c.args.claim c.requires.orderly c.requires.first in
    let first = next_room m now x c.args.claim room c.requires.first in
    let taken = taken_is now.locks c.grant.new.self x c.grant.result c.args.claim first c.grant.ensures.turn c.grant.ensures.change in
    let took = c.take_free-next.ensures.taken in
    let from = took.1 c.go_on.new.core c.go_on.ensures.went in
    granted_in_turn m now from.first c.go_on.new.core x c.grant.new.self took.0 room
    (may_grant m x c.requires.orderly (record { owned = c.requires.owned; claim = c.args.claim; next = c.requires.first }))
    (granted_room m now from.first x room
    (lock_granted now x c.args.claim (orderly_room nobody m now room c.requires.orderly) first e.0 (entered_room m now c.args.claim.scope _ room e.1) c.grant.new.self from.first taken from.went))
    from.granted
