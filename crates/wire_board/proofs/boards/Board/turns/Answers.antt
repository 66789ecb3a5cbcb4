use Rattle.std.proofs.Common.{length, length-set, rules, subst, suc, sym, ◌*◌, ◌+◌, ◌<◌, ◌^◌, ◌∙◌, ◌≡◌, ℕ}
use Rattle.std.proofs.lemmas.List.{get_or_read}
use Rattle.wire_board.proofs.Attempting.{all_at, all_set, own_seat, seat_again}
use Rattle.wire_board.specs.Attempts.{IsSeatOf}
use Rattle.wire_board.specs.declared.seats.NodeSeat.{NodeSeat}
use Rattle.wire_board.proofs.boards.Board.turns.Goals as goal

pub turn_of-requires-clause-table : goal.turn_of-requires-clause-table
turn_of-requires-clause-table g c =
    let at = c.loop-a in
    let x = c.index_mut.result.now in
    let low : at.a < length at.seats.items = search rules in
    subst (λ (s : NodeSeat g.row.M.Denot). s.place.seat.table_id ≡ c.args.self.now.table.table.shared.table_id) (sym (get_or_read at.seats.items at.a x low c.index_mut.ensures.value x))
    (all_at (λ a seat. seat.place.seat.table_id ≡ c.args.self.now.table.table.shared.table_id) 0 at.seats.items at.a x low at.invariant.tables)

pub turn_of-requires-clause-links : goal.turn_of-requires-clause-links
turn_of-requires-clause-links g c =
    let at = c.loop-a in
    let represents = g.M.SavingMachine.represents in
    let done = c.args.self.now.table.table.shared.key.about.done.value.items in
    let peers = suc (length c.args.seats.now.items) in
    let x = c.index_mut.result.now in
    let low : at.a < length at.seats.items = search rules in
    let s = subst (λ (s : NodeSeat g.row.M.Denot). IsSeatOf represents peers done (0 + at.a) s.member s.place.seat.me s.before) (sym (get_or_read at.seats.items at.a x low c.index_mut.ensures.value x))
    (all_at (λ a seat. IsSeatOf represents peers done a seat.member seat.place.seat.me seat.before) 0 at.seats.items at.a x low at.invariant.seats) in
    (subst (λ (k : ℕ). k * k ≡ c.args.self.now.table.many) (sym s.peers_are) c.requires.links.0, subst (λ (k : ℕ). k < 2 ^ 16) (sym s.peers_are) c.requires.links.1)

pub turn_of-requires-clause-seat : goal.turn_of-requires-clause-seat
turn_of-requires-clause-seat g c =
    let at = c.loop-a in
    let represents = g.M.SavingMachine.represents in
    let done = c.args.self.now.table.table.shared.key.about.done.value.items in
    let peers = suc (length c.args.seats.now.items) in
    let x = c.index_mut.result.now in
    let low : at.a < length at.seats.items = search rules in
    let s = subst (λ (s : NodeSeat g.row.M.Denot). IsSeatOf represents peers done (0 + at.a) s.member s.place.seat.me s.before) (sym (get_or_read at.seats.items at.a x low c.index_mut.ensures.value x))
    (all_at (λ a seat. IsSeatOf represents peers done a seat.member seat.place.seat.me seat.before) 0 at.seats.items at.a x low at.invariant.seats) in
    own_seat represents done x.place.seat.me x.before peers (0 + at.a) x.member s

pub loop-a-preserved : goal.loop-a-preserved
loop-a-preserved g c =
    let at = c.loop-a in
    let represents = g.M.SavingMachine.represents in
    let done = c.args.self.now.table.table.shared.key.about.done.value.items in
    let peers = suc (length c.args.seats.now.items) in
    let x = c.index_mut.result.now in
    let new = c.turn_of.new.seat in
    let low : at.a < length at.seats.items = search rules in
    let s = subst (λ (s : NodeSeat g.row.M.Denot). IsSeatOf represents peers done (0 + at.a) s.member s.place.seat.me s.before) (sym (get_or_read at.seats.items at.a x low c.index_mut.ensures.value x))
    (all_at (λ a seat. IsSeatOf represents peers done a seat.member seat.place.seat.me seat.before) 0 at.seats.items at.a x low at.invariant.seats) in
    record {
      many = length-set at.seats.items at.a new ∙ at.invariant.many;
      tables = all_set (λ a seat. seat.place.seat.table_id ≡ c.args.self.now.table.table.shared.table_id) 0 at.seats.items at.a new at.invariant.tables c.in_ok-turn_of.ensures.table;
      seats = all_set (λ a seat. IsSeatOf represents peers done a seat.member seat.place.seat.me seat.before) 0 at.seats.items at.a new at.invariant.seats
          (seat_again represents done new.place.seat.me new.before peers (0 + at.a) x.member.number x.member.peers new.member s.number s.peers_are c.in_ok-turn_of.ensures.seat);
    }
