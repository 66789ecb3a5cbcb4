-- A machine in whose log and outboxes room was made.
use Rattle.std.proofs.Common.{◌≡◌, Vec, Global, refl, sym, subst}
use Rattle.gl_base.specs.declared.entries.Entry.{Entry}
use Rattle.wire.specs.outboxes.Outboxes.{OutboxesView}
use Rattle.machine_core.specs.declared.machine_parts.cores.Core.{Core}
use Rattle.machine_core.specs.machine_parts.Order.{KnowsPlaces}
use Rattle.machine_core.specs.machine_parts.Rooms.{HaveSameMessages, HasOnlyMadeRoom}

pub room_made : (m : Core) (log : Vec Entry Global) (out : OutboxesView) → log.items ≡ m.numbers.log.items → HaveSameMessages m.out out → HasOnlyMadeRoom m (record m { numbers = record m.numbers { log = log }; out = out })
room_made m log out items same =
    record {
      log = items;
      locks = record { owned = λ x. refl; holder = λ x s. refl; queue = λ x. refl };
      out = same;
      rest = refl;
    }

pub places_room : (old new : Core) → HasOnlyMadeRoom old new → KnowsPlaces old → KnowsPlaces new
places_room old new room knows = subst KnowsPlaces (sym room.rest) (record { vertices = record { many = knows.vertices.many; place = knows.vertices.place }; flags = knows.flags })
