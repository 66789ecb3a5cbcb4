use Rattle.std.proofs.Common.{ℕ, ◌<◌}
use Rattle.call_laws.specs.whole_calls.Telling.{HasNoWordAt}
use Rattle.cluster_step.specs.drive.Pauses.{InEachTrace}
use Rattle.cluster_step.proofs.drive.asking.has_no_word.Given as goal

abbrev pub invariant-loop-m : goal.invariant-loop-m
invariant-loop-m g l = (a : ℕ) → a < l.m → InEachTrace g.M.SavingMachine.represents l.trace (λ st o events c. HasNoWordAt c a)
