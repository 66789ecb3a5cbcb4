use Rattle.wire_board.specs.Directing.{HasDirectedIf}
use Rattle.std.proofs.Common.{List, suc, ℕ, ◌<◌, ◌≡◌}
use Rattle.wire_board.specs.Led.{link_no}
use Rattle.wire_board.specs.Seats.{Leads, Seated}
use Rattle.wire_board.specs.Sights.{HasLooked, Sees}
use Rattle.wire_board.proofs.boards.Board.hear_reports.Given as goal

abbrev pub invariant-loop-from : goal.invariant-loop-from
invariant-loop-from g l = record {
  table : l.place.seat.table_id ≡ l.self.table.table.shared.table_id;
  sits : (others : List (Seated g.row.M.Denot)) → Leads l.fn.lead others l.fn.place.seat.me → Leads l.lead others l.place.seat.me;
  same : l.lead.number ≡ l.fn.lead.number;
  sees : Sees l.fn.place.seat.me l.place.seat.me;
  looked : (k : ℕ) → k < l.from → HasLooked l.fn.place.seat.me l.place.seat.me (link_no (suc l.fn.lead.number) k l.fn.lead.number);
  led : HasDirectedIf l.fn.lead.number l.fn.lead.coordinator l.fn.place.seat.me l.lead.coordinator l.place.seat.me l.moved;
}
