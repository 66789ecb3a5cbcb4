use Rattle.std.proofs.Common.{◌≡◌}
use Rattle.engine_runs.specs.finish.Gathered.{InEachTrace, all_logged, machine_logs}
use Rattle.engine_runs.proofs.finish.logs.all_logs.Given as goal

abbrev pub invariant-loop-m : goal.invariant-loop-m
invariant-loop-m g l = InEachTrace g.M.SavingMachine.represents l.trace (λ st o events c. l.all.items ≡ all_logged (machine_logs l.m c))
