use Rattle.std.proofs.Common.{List, ◌++◌, ◌≡◌}
use Rattle.coordinator.specs.machine_api.Promises.{OfEach}
use Rattle.wire_board.specs.Hearing.{HasToldAll, MessageView}
use Rattle.wire_board.proofs.telling.tell_all.Given as goal

abbrev pub invariant-loop : goal.invariant-loop
invariant-loop g l = (told : List MessageView) × (l.queue.messages ≡ l.fn.queue.messages ++ told) × OfEach g.M.SavingMachine.represents l.fn.machine (HasToldAll g.M.SavingMachine.represents l.to.0 told l.machine)
