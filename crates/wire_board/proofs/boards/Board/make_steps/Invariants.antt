use Rattle.wire_board.specs.Stepping.{HasStepped, machines_at}
use Rattle.std.proofs.Common.{[], ◌≡◌, length, suc}
use Rattle.wire_board.specs.Attempts.{AllFrom, IsSeatOf}
use Rattle.wire_board.specs.Seats.{Leads}
use Rattle.wire_board.proofs.boards.Board.make_steps.Given as goal

abbrev pub invariant-loop-step : goal.invariant-loop-step
invariant-loop-step g l = record {
  table : l.first.place.seat.table_id ≡ l.self.table.table.shared.table_id;
  number : l.first.lead.number ≡ l.fn.first.lead.number;
  leads : Leads l.first.lead [] l.first.place.seat.me;
  many : length l.seats.items ≡ length l.fn.seats.items;
  tables : AllFrom (λ a seat. seat.place.seat.table_id ≡ l.self.table.table.shared.table_id) 0 l.seats.items;
  seats : AllFrom (λ a seat. IsSeatOf g.M.SavingMachine.represents (suc (length l.fn.seats.items)) l.self.table.table.shared.key.about.done.value.items a seat.member seat.place.seat.me seat.before) 0 l.seats.items;
  moved : HasStepped g.M.SavingMachine.represents (length l.fn.seats.items) (machines_at l.fn.seats.items) l.fn.first.lead.coordinator (machines_at l.seats.items) l.first.lead.coordinator l.moved;
}
