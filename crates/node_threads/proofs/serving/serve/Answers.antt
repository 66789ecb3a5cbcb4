use Rattle.std.proofs.Common.{refl, ◌+◌}
use Rattle.link_tables.specs.Seats.{word_at}
use Rattle.node_threads.proofs.Turns.{at_board, at_own, served_read}
use Rattle.node_threads.specs.Nodes.{NodeSeat}
use Rattle.node_threads.proofs.serving.serve.Goals as goal

pub returns-then-is_halted : goal.returns-then-is_halted
returns-then-is_halted g c =
    let found = c.is_halted.ensures.found in
    let t = c.loop.seat in
    served_read g.M.SavingMachine.represents c.args.seat t (record { member = t.member; place = c.is_halted.new.place; before = t.before }) (word_at (c.args.hall.now.board.now.table.many + 1)) found.0 c.loop.invariant.served refl refl c.is_halted.ensures.table found.1

pub play_turn-requires-clause-seat : goal.play_turn-requires-clause-seat
play_turn-requires-clause-seat g c =
    let represents = g.M.SavingMachine.represents in
    let board = c.args.hall.now.board.now in
    let found = c.is_halted.ensures.found in
    let t = c.loop.seat in
    let u : NodeSeat g.row.M.Denot = record { member = t.member; place = c.is_halted.new.place; before = t.before } in
    let served = served_read represents c.args.seat t u (word_at (board.table.many + 1)) found.0 c.loop.invariant.served refl refl c.is_halted.ensures.table found.1 in
    at_own represents board c.args.seat.member.peers c.args.seat.member.number u (at_board represents board c.args.seat.member.peers c.args.seat.member.number c.args.seat u c.requires.seat served)
