use Rattle.std.proofs.Common.{◌≡◌, ℕ, ◌<◌, false}
use Rattle.cluster_step.specs.drive.Pauses.{InEachTrace}
use Rattle.call_laws.specs.whole_calls.Following.{has_reached}
use Rattle.cluster_step.proofs.drive.pauses.first_reached.Given as goal

abbrev pub invariant-loop-m : goal.invariant-loop-m
invariant-loop-m g l = (a : ℕ) → a < l.m → InEachTrace g.M.SavingMachine.represents l.trace (λ st o events c. has_reached l.trace.failures c a ≡ false)
