use Rattle.std.proofs.Common.{List, length, ◌++◌, ◌≡◌}
use Rattle.wire_board.specs.Hearing.{HasHeardAll, MessageView}
use Rattle.wire_board.proofs.hearing.hear_all.Given as goal

abbrev pub invariant-loop-message : goal.invariant-loop-message
invariant-loop-message g l = (heard : List MessageView) × (l.fn.queue.messages ≡ heard ++ l.queue.messages) × HasHeardAll g.M.SavingMachine.represents l.fn.machine l.from.0 l._me heard l.queue.messages l.machine

abbrev pub decreases-loop-message : goal.decreases-loop-message
decreases-loop-message g l = length l.queue.messages
