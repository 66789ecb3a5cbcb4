use Rattle.std.proofs.Common.{false, ℕ, ◌<◌, ◌≡◌}
use Rattle.wire_board.specs.Acts.{HasMovedIf}
use Rattle.wire_board.specs.Led.{link_no}
use Rattle.wire_board.specs.Seats.{Sits}
use Rattle.wire_board.specs.Sights.{FoundNothing, HasLooked, Sees}
use Rattle.wire_board.proofs.boards.Board.hear_each.Given as goal

abbrev pub invariant-loop-from : goal.invariant-loop-from
invariant-loop-from g l = record {
  table : l.place.seat.table_id ≡ l.self.table.table.shared.table_id;
  sits : Sits g.M.SavingMachine.represents l.member l.place.seat.me;
  same : (l.member.number ≡ l.fn.member.number) × (l.member.peers ≡ l.fn.member.peers);
  sees : Sees l.fn.place.seat.me l.place.seat.me;
  looked : (k : ℕ) → k < l.from → HasLooked l.fn.place.seat.me l.place.seat.me (link_no l.fn.member.peers k l.fn.member.number);
  nothing : l.moved ≡ false → (k : ℕ) → k < l.from → FoundNothing l.fn.place.seat.me l.place.seat.me (link_no l.fn.member.peers k l.fn.member.number);
  moved : HasMovedIf g.M.SavingMachine.represents l.self.table.many l.fn.member.peers l.fn.member.number l.fn.member.machine l.fn.place.seat.me l.member.machine l.place.seat.me l.moved;
}
