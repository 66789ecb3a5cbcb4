use Rattle.std.proofs.Common.{refl, ◌∙◌}
use Rattle.link_tables.proofs.Seeing.{sees_same, sees_then}
use Rattle.wire_board.proofs.Acting.{moved_at, moved_both, moved_none}
use Rattle.wire_board.proofs.boards.Board.tell_each.Goals as goal

pub loop-to-init : goal.loop-to-init
loop-to-init g c = record {
  table = c.requires.table;
  sits = c.requires.sits;
  same = (refl, refl);
  sees = sees_same c.args.place.now.seat.me c.args.place.now.seat.me refl;
  moved = moved_none g.M.SavingMachine.represents c.args.self.now.table.many c.args.member.now.peers c.args.member.now.number c.args.member.now.machine c.args.member.now.machine c.args.place.now.seat.me c.args.place.now.seat.me _ _
      (λ st a m setting here. here) (sees_same c.args.place.now.seat.me c.args.place.now.seat.me refl) (λ e. cc);
}

pub loop-to-preserved : goal.loop-to-preserved
loop-to-preserved g c = let i = c.loop-to.invariant in record {
  table = c.tell_some.ensures.table ∙ i.table;
  sits = c.tell_some.ensures.sits;
  same = (c.tell_some.ensures.same.0 ∙ i.same.0, c.tell_some.ensures.same.1 ∙ i.same.1);
  sees = sees_then c.args.place.now.seat.me c.loop-to.place.seat.me c.tell_some.new.place.seat.me i.sees c.tell_some.ensures.sees;
  moved = let represents = g.M.SavingMachine.represents in
      let many = c.args.self.now.table.many in
      let member = c.args.member.now in
      let here = c.loop-to.member in
      moved_both represents many member.peers member.number member.machine here.machine c.tell_some.new.member.machine c.args.place.now.seat.me c.loop-to.place.seat.me c.tell_some.new.place.seat.me _ _ _ _ _ _ i.moved
      (moved_at represents many member.peers here.peers member.number here.number here.machine c.tell_some.new.member.machine c.loop-to.place.seat.me c.tell_some.new.place.seat.me _ _ i.same.1 i.same.0 c.in_ok-some.ensures.moved)
      c.either-moved.ensures.some c.either-moved.ensures.none;
}
