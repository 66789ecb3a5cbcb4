use Rattle.std.proofs.Common.{length, length-set, rules, subst, sym, ◌+◌, ◌<◌, ◌∙◌}
use Rattle.std.proofs.lemmas.List.{get_or_read}
use Rattle.node_threads.proofs.Turns.{at_board, at_own}
use Rattle.node_threads.specs.Nodes.{FitsBoard, IsAtBoard, NodeSeat}
use Rattle.wire_board.proofs.Attempting.{all_at, all_set}
use Rattle.node_threads.proofs.leading.play_each.Goals as goal

pub play_turn-requires-clause-fits : goal.play_turn-requires-clause-fits
play_turn-requires-clause-fits g c =
    let at = c.loop-a in
    let represents = g.M.SavingMachine.represents in
    let board = c.args.board.now in
    let x = c.index_mut.result.now in
    let low : at.a < length at.seats.items = search rules in
    let s = subst (λ (s : NodeSeat g.row.M.Denot). IsAtBoard represents board c.args._peers (0 + at.a) s) (sym (get_or_read at.seats.items at.a x low c.index_mut.ensures.value x))
    (all_at (IsAtBoard represents board c.args._peers) 0 at.seats.items at.a x low at.invariant.seats) in
    subst (FitsBoard board c.args.failures.now) (sym s.is.peers_are) c.requires.fits

pub play_turn-requires-clause-seat : goal.play_turn-requires-clause-seat
play_turn-requires-clause-seat g c =
    let at = c.loop-a in
    let represents = g.M.SavingMachine.represents in
    let board = c.args.board.now in
    let x = c.index_mut.result.now in
    let low : at.a < length at.seats.items = search rules in
    let s = subst (λ (s : NodeSeat g.row.M.Denot). IsAtBoard represents board c.args._peers (0 + at.a) s) (sym (get_or_read at.seats.items at.a x low c.index_mut.ensures.value x))
    (all_at (IsAtBoard represents board c.args._peers) 0 at.seats.items at.a x low at.invariant.seats) in
    at_own represents board c.args._peers (0 + at.a) x s

pub loop-a-preserved : goal.loop-a-preserved
loop-a-preserved g c =
    let at = c.loop-a in
    let represents = g.M.SavingMachine.represents in
    let board = c.args.board.now in
    let x = c.index_mut.result.now in
    let new = c.play_turn.new.seat in
    let low : at.a < length at.seats.items = search rules in
    let s = subst (λ (s : NodeSeat g.row.M.Denot). IsAtBoard represents board c.args._peers (0 + at.a) s) (sym (get_or_read at.seats.items at.a x low c.index_mut.ensures.value x))
    (all_at (IsAtBoard represents board c.args._peers) 0 at.seats.items at.a x low at.invariant.seats) in
    record {
      many = length-set at.seats.items at.a new ∙ at.invariant.many;
      seats = all_set (IsAtBoard represents board c.args._peers) 0 at.seats.items at.a new at.invariant.seats (at_board represents board c.args._peers (0 + at.a) x new s c.in_ok-play_turn.ensures);
    }
