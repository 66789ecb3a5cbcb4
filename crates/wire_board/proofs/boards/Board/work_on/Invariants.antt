use Rattle.std.proofs.Common.{◌≡◌}
use Rattle.wire_board.specs.Acts.{HasMovedIf}
use Rattle.wire_board.specs.Seats.{Sits}
use Rattle.wire_board.specs.Sights.{Sees}
use Rattle.wire_board.proofs.boards.Board.work_on.Given as goal

abbrev pub invariant-loop : goal.invariant-loop
invariant-loop g l = record {
  table : l.place.seat.table_id ≡ l.self.table.table.shared.table_id;
  sits : Sits g.M.SavingMachine.represents l.member l.place.seat.me;
  same : (l.member.number ≡ l.fn.member.number) × (l.member.peers ≡ l.fn.member.peers);
  sees : Sees l.fn.place.seat.me l.place.seat.me;
  moved : HasMovedIf g.M.SavingMachine.represents l.self.table.many l.fn.member.peers l.fn.member.number l.fn.member.machine l.fn.place.seat.me l.member.machine l.place.seat.me l.made;
}
