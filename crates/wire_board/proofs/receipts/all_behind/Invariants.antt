use Rattle.std.proofs.Common.{◌≡◌}
use Rattle.cluster_step.specs.trace.Traces.{InEachTrace}
use Rattle.wire_board.specs.Receipts.{logged_behind}
use Rattle.wire_board.proofs.receipts.all_behind.Given as goal

abbrev pub invariant-loop-m : goal.invariant-loop-m
invariant-loop-m g l = InEachTrace g.M.SavingMachine.represents l.trace (λ st o events c. l.all.items ≡ logged_behind l.lengths l.m c)
