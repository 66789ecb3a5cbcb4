use Rattle.std.proofs.Common.{◌++◌, ◌+◌, ◌≡◌, ◌≤◌, [], length, vec_capacity}
use Rattle.std.specs.Vec.Iter.{into_iter_items, into_iter_len}
use Rattle.link_tables.specs.Seats.{Rests}
use Rattle.wire_board.specs.Attempts.{AllFrom, AreNumbered, Lead, Leading, resting}
use Rattle.wire_board.specs.Seats.{Sits}
use Rattle.wire_board.specs.Stepping.{machines_at, machines_of}
use Rattle.wire_board.proofs.boards.Board.gather_each.Given as goal

abbrev pub invariant-loop-seat : goal.invariant-loop-seat
invariant-loop-seat g l = record {
  table : l.place.seat.table_id ≡ l.self.table.table.shared.table_id;
  all : (lead : Leading) → Rests l.fn.place.seat.me (Lead lead) [] → Rests l.place.seat.me (Lead lead) (resting l.members.items);
  numbers : AreNumbered l._peers 0 l.members.items;
  machines : machines_of l.members.items ++ machines_at (into_iter_items l.seat-iterator) ≡ machines_at l.fn.seats.items;
  count : length l.members.items + length (into_iter_items l.seat-iterator) ≡ length l.fn.seats.items;
  tables : AllFrom (λ a seat. seat.place.seat.table_id ≡ l.self.table.table.shared.table_id) (length l.members.items) (into_iter_items l.seat-iterator);
  seats : AllFrom (λ a seat. (seat.member.number ≡ a) × (seat.member.peers ≡ l._peers) × Sits g.M.SavingMachine.represents seat.member seat.place.seat.me) (length l.members.items) (into_iter_items l.seat-iterator);
  many : into_iter_len l.seat-iterator ≡ length (into_iter_items l.seat-iterator);
  room : length l.members.items + length (into_iter_items l.seat-iterator) ≤ vec_capacity l.members;
}
