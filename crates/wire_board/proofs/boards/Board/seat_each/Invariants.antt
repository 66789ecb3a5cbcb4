use Rattle.std.proofs.Common.{◌++◌, ◌+◌, ◌≡◌, ◌≤◌, length, suc, vec_capacity}
use Rattle.std.specs.Vec.Iter.{into_iter_items, into_iter_len}
use Rattle.link_tables.specs.Seats.{Rests}
use Rattle.wire_board.specs.Attempts.{AllFrom, AreNumbered, IsSeatOf, Lead, Leading, resting}
use Rattle.wire_board.specs.Stepping.{machines_at, machines_of}
use Rattle.wire_board.proofs.boards.Board.seat_each.Given as goal

abbrev pub invariant-loop-member : goal.invariant-loop-member
invariant-loop-member g l = record {
  table : l.place.seat.table_id ≡ l.self.table.table.shared.table_id;
  alone : (lead : Leading) → Rests l.fn.place.seat.me (Lead lead) (resting l.fn.members.items) → Rests l.place.seat.me (Lead lead) (resting (into_iter_items l.member-iterator));
  numbers : AreNumbered (suc (length l.fn.members.items)) (length l.seats.items) (into_iter_items l.member-iterator);
  machines : machines_at l.seats.items ++ machines_of (into_iter_items l.member-iterator) ≡ machines_of l.fn.members.items;
  count : length l.seats.items + length (into_iter_items l.member-iterator) ≡ length l.fn.members.items;
  tables : AllFrom (λ a seat. seat.place.seat.table_id ≡ l.self.table.table.shared.table_id) 0 l.seats.items;
  seats : AllFrom (λ a seat. IsSeatOf g.M.SavingMachine.represents (suc (length l.fn.members.items)) l.done a seat.member seat.place.seat.me seat.before) 0 l.seats.items;
  many : into_iter_len l.member-iterator ≡ length (into_iter_items l.member-iterator);
  room : length l.seats.items + length (into_iter_items l.member-iterator) ≤ vec_capacity l.seats;
}
