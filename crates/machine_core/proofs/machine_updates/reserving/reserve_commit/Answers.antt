-- Only room was made.
use Rattle.machine_core.specs.machine_parts.Order.{nobody}
use Rattle.machine_core.proofs.machine_parts.RoomLemmas.{part_room, settings_room, orderly_room}
use Rattle.machine_core.proofs.machine_updates.ReserveLemmas.{room_made, places_room}
use Rattle.machine_core.proofs.machine_updates.reserving.reserve_commit.Goals as goal

pub returns-clause-part : goal.returns-clause-part
returns-clause-part c =
    let m = c.args.core.now in
    part_room m _ (room_made m c.reserve_log.new.log c.prepare.new.out c.reserve_log.ensures.items c.prepare.ensures.same)

pub returns-clause-orderly : goal.returns-clause-orderly
returns-clause-orderly c =
    let m = c.args.core.now in
    orderly_room nobody m _ (room_made m c.reserve_log.new.log c.prepare.new.out c.reserve_log.ensures.items c.prepare.ensures.same) c.requires.orderly

pub returns-clause-settings : goal.returns-clause-settings
returns-clause-settings c =
    let m = c.args.core.now in
    settings_room m _ (room_made m c.reserve_log.new.log c.prepare.new.out c.reserve_log.ensures.items c.prepare.ensures.same)

pub returns-clause-places : goal.returns-clause-places
returns-clause-places c =
    let m = c.args.core.now in
    places_room m _ (room_made m c.reserve_log.new.log c.prepare.new.out c.reserve_log.ensures.items c.prepare.ensures.same)
