use Rattle.wire_board.specs.Directing.{HasDirectedIf}
use Rattle.std.proofs.Common.{List, ◌≡◌}
use Rattle.wire_board.specs.Seats.{Leads, Seated}
use Rattle.wire_board.specs.Sights.{Sees}
use Rattle.wire_board.proofs.boards.Board.tell_calls.Given as goal

abbrev pub invariant-loop-to : goal.invariant-loop-to
invariant-loop-to g l = record {
  table : l.place.seat.table_id ≡ l.self.table.table.shared.table_id;
  sits : (others : List (Seated g.row.M.Denot)) → Leads l.fn.lead others l.fn.place.seat.me → Leads l.lead others l.place.seat.me;
  same : l.lead.number ≡ l.fn.lead.number;
  sees : Sees l.fn.place.seat.me l.place.seat.me;
  led : HasDirectedIf l.fn.lead.number l.fn.lead.coordinator l.fn.place.seat.me l.lead.coordinator l.place.seat.me l.moved;
}
