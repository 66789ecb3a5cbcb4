use Rattle.wire_board.specs.Acts.{MovesAlone}
use Rattle.wire_board.specs.Standings.{ComesOn}
use Rattle.wire_board.proofs.working.settle_all.Given as goal

abbrev pub invariant-loop : goal.invariant-loop
invariant-loop g l = record { comes : ComesOn g.M.SavingMachine.represents l.fn.machine l.machine; moved : MovesAlone g.M.SavingMachine.represents l.fn.machine l.machine l.some }
