use Rattle.std.proofs.Common.{refl, ◌∙◌}
use Rattle.link_tables.proofs.Seeing.{sees_same, sees_then}
use Rattle.wire_board.proofs.Directings.{call_directed, directed_both, directed_none, lead_stays}
use Rattle.wire_board.proofs.boards.Board.tell_calls.Goals as goal

pub loop-to-init : goal.loop-to-init
loop-to-init g c = record { table = c.requires.table; sits = λ others s. s; same = refl; sees = sees_same c.args.place.now.seat.me c.args.place.now.seat.me refl; led = directed_none c.args.lead.now.number c.args.lead.now.coordinator c.args.lead.now.coordinator c.args.place.now.seat.me c.args.place.now.seat.me _ _ (lead_stays c.args.lead.now.coordinator c.args.lead.now.coordinator refl) (sees_same c.args.place.now.seat.me c.args.place.now.seat.me refl) (λ e. absurd (cc)) }

pub loop-to-preserved : goal.loop-to-preserved
loop-to-preserved g c = let i = c.loop-to.invariant in record {
  table = c.tell_call.ensures.table ∙ i.table;
  sits = λ others s. c.tell_call.ensures.sits others (i.sits others s);
  same = c.tell_call.ensures.number ∙ i.same;
  sees = sees_then c.args.place.now.seat.me c.loop-to.place.seat.me c.tell_call.new.place.seat.me i.sees c.tell_call.ensures.sees;
  led =
      let lead = c.args.lead.now in
      let here = c.loop-to.lead.coordinator in
      let there = c.tell_call.new.lead.coordinator in
      let old = c.loop-to.place.seat.me in
      let new = c.tell_call.new.place.seat.me in
      let one = c.in_ok-how.ensures in
      directed_both lead.number lead.coordinator here there c.args.place.now.seat.me old new _ _ _ _ _ _ i.led
      (call_directed lead.number here there old new c.has_gone.result c.loop-to.to c.tell_call.ensures.sees c.in_ok-how.how one.moved (λ so. (one.nothing so).0) (λ so. (one.busy so).0) c.has_gone.ensures.some c.has_gone.ensures.none)
      c.either-moved.ensures.some c.either-moved.ensures.none;
}
