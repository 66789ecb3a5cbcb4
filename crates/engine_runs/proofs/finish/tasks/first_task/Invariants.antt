use Rattle.std.proofs.Common.{◌≡◌, ℕ, ◌<◌, false}
use Rattle.engine_runs.specs.finish.Gathered.{InEachTrace, IsAnyMachineOf}
use Rattle.engine_runs.proofs.finish.tasks.first_task.Given as goal

abbrev pub invariant-loop-m : goal.invariant-loop-m
invariant-loop-m g l = (a : ℕ) → a < l.m → InEachTrace (IsAnyMachineOf g.P.Program.meaning) l.trace (λ st o events c. (u : ℕ) → (c.machine a).part.task u ≡ false)
