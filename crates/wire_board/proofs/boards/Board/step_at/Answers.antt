use Rattle.std.proofs.lemmas.List.{length-map}
use Rattle.wire_board.proofs.Acting.{made_at}
use Rattle.wire_board.proofs.Steppings.{made_none, map_put, map_read}
use Rattle.wire_board.specs.Acts.{AreMade}
use Rattle.wire_board.specs.Stepping.{machines_at}
use Rattle.std.proofs.Common.{arith, inl, length, length-set, rules, subst, suc, sym, ◌*◌, ◌+◌, ◌<◌, ◌^◌, ◌∙◌, ◌≡◌, ℕ}
use Rattle.std.proofs.lemmas.List.{get_or_read}
use Rattle.wire_board.proofs.Attempting.{all_at, all_set, own_seat, seat_again}
use Rattle.wire_board.proofs.Sighting.{if_ok_to, on_ok_to}
use Rattle.wire_board.specs.Attempts.{IsSeatOf}
use Rattle.wire_board.specs.declared.seats.NodeSeat.{NodeSeat}
use Rattle.wire_board.proofs.boards.Board.step_at.Goals as goal

pub step_of-requires-clause-table : goal.step_of-requires-clause-table
step_of-requires-clause-table g c =
    let seats = c.args.seats.now.items in
    let a = c.in-Node.at.0 in
    let x = c.index_mut.result.now in
    let low : a < length seats = search rules in
    subst (λ (s : NodeSeat g.row.M.Denot). s.place.seat.table_id ≡ c.args.self.now.table.table.shared.table_id) (sym (get_or_read seats a x low c.index_mut.ensures.value x))
    (all_at (λ a seat. seat.place.seat.table_id ≡ c.args.self.now.table.table.shared.table_id) 0 seats a x low c.requires.tables)

pub step_of-requires-clause-links : goal.step_of-requires-clause-links
step_of-requires-clause-links g c =
    let seats = c.args.seats.now.items in
    let a = c.in-Node.at.0 in
    let represents = g.M.SavingMachine.represents in
    let done = c.args.self.now.table.table.shared.key.about.done.value.items in
    let peers = suc (length c.args.seats.now.items) in
    let x = c.index_mut.result.now in
    let low : a < length seats = search rules in
    let s = subst (λ (s : NodeSeat g.row.M.Denot). IsSeatOf represents peers done (0 + a) s.member s.place.seat.me s.before) (sym (get_or_read seats a x low c.index_mut.ensures.value x))
    (all_at (λ a seat. IsSeatOf represents peers done a seat.member seat.place.seat.me seat.before) 0 seats a x low c.requires.seats) in
    (subst (λ (k : ℕ). k * k ≡ c.args.self.now.table.many) (sym s.peers_are) c.requires.links.0, subst (λ (k : ℕ). k < 2 ^ 16) (sym s.peers_are) c.requires.links.1)

pub step_of-requires-clause-seat : goal.step_of-requires-clause-seat
step_of-requires-clause-seat g c =
    let seats = c.args.seats.now.items in
    let a = c.in-Node.at.0 in
    let represents = g.M.SavingMachine.represents in
    let done = c.args.self.now.table.table.shared.key.about.done.value.items in
    let peers = suc (length c.args.seats.now.items) in
    let x = c.index_mut.result.now in
    let low : a < length seats = search rules in
    let s = subst (λ (s : NodeSeat g.row.M.Denot). IsSeatOf represents peers done (0 + a) s.member s.place.seat.me s.before) (sym (get_or_read seats a x low c.index_mut.ensures.value x))
    (all_at (λ a seat. IsSeatOf represents peers done a seat.member seat.place.seat.me seat.before) 0 seats a x low c.requires.seats) in
    own_seat represents done x.place.seat.me x.before peers (0 + a) x.member s

pub returns : goal.returns
returns g c =
    let seats = c.args.seats.now.items in
    let a = c.in-Node.at.0 in
    let represents = g.M.SavingMachine.represents in
    let done = c.args.self.now.table.table.shared.key.about.done.value.items in
    let peers = suc (length c.args.seats.now.items) in
    let x = c.index_mut.result.now in
    let new = c.step_of.new.seat in
    let low : a < length seats = search rules in
    let s = subst (λ (s : NodeSeat g.row.M.Denot). IsSeatOf represents peers done (0 + a) s.member s.place.seat.me s.before) (sym (get_or_read seats a x low c.index_mut.ensures.value x))
    (all_at (λ a seat. IsSeatOf represents peers done a seat.member seat.place.seat.me seat.before) 0 seats a x low c.requires.seats) in
    let none_more : 0 + a ≡ a = omega arith in
    record {
      many = on_ok_to c.step_of.result (λ t. length-set seats a new) c.step_of.ensures.table;
      tables = on_ok_to c.step_of.result (λ t. all_set (λ a seat. seat.place.seat.table_id ≡ c.args.self.now.table.table.shared.table_id) 0 seats a new c.requires.tables t) c.step_of.ensures.table;
      seats = on_ok_to c.step_of.result (λ t. all_set (λ a seat. IsSeatOf represents peers done a seat.member seat.place.seat.me seat.before) 0 seats a new c.requires.seats
          (seat_again represents done new.place.seat.me new.before peers (0 + a) x.member.number x.member.peers new.member s.number s.peers_are t)) c.step_of.ensures.seat;
      moved = if_ok_to c.step_of.result _ _
          (λ some moved. (
            moved.0,
            inl (
              a,
              x.member.machine,
              new.member.machine,
              x.place.seat.me,
              new.place.seat.me,
              subst (λ (k : ℕ). a < k) (sym (length-map seats (λ (s : NodeSeat g.row.M.Denot). s.member.machine))) low,
              map_read (λ (s : NodeSeat g.row.M.Denot). s.member.machine) seats a x low c.index_mut.ensures.value,
              map_put (λ (s : NodeSeat g.row.M.Denot). s.member.machine) seats a new,
              subst (λ (k : ℕ). AreMade represents k peers a moved.0 x.member.machine x.place.seat.me new.member.machine new.place.seat.me) (sym c.requires.links.0)
                  (made_at represents c.args.self.now.table.many peers x.member.peers a x.member.number moved.0 x.member.machine new.member.machine x.place.seat.me new.place.seat.me s.peers_are (s.number ∙ none_more) moved.1),
            ),
            moved.2,
            moved.3,
          )) c.step_of.ensures.moved;
    }

pub returns-in_default-clause-moved : goal.returns-in_default-clause-moved
returns-in_default-clause-moved g c = made_none g.M.SavingMachine.represents (length c.args.seats.now.items) (machines_at c.args.seats.now.items)
